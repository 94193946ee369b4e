pub mod PairLemmas
pub mod RectangleLemmas
