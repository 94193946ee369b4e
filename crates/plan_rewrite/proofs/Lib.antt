mod ListLemmas
mod SpanLemmas
mod TieLemmas
mod PushingLemmas
mod FormedLemmas
mod StepLemmas
mod StoredLemmas
mod WorkedRows
