-- Shelves and sinks in memory: what contracts see of them, and what a call makes of them.
--
--   NamedBytes                    a name and the bytes of its file
--   HasDistinctNames files        no name stands twice
--   content_among files name      the content of a name, always told
--   MemoryShelf, MemorySink       what contracts see of a shelf and of a sink
--   fetch_fails, fetch_misses     whether the next fetch fails; whether it finds no file
--   shelf_after shelf name        the shelf after a fetch
--   write_fails sink              whether the next write fails
--   sink_after answer sink piece  the sink after a write
use Rattle.std.specs.Prelude.{ℕ, Bool, true, not, ◌&&◌, ◌==◌, if◌then◌else◌, IsTrue, List, [], ◌∷◌, ◌++◌, take, is_none, Option, Some, None, Result, Ok, Err, nat_eq}
use Rattle.std.specs.List.{list_any, find}
use Rattle.std.specs.Cmp.Lexicographic.{pointwise}
use Rattle.rel_io.specs.Outside.{Content, missing, there, capped_sum}
use Rattle.rel_io.specs.declared.sinks.SinkFault.{SinkFault}
use Rattle.rel_io.specs.declared.sinks.SinkFault.TheVariants as refusal

-- a name, and the bytes of its file
abbrev pub NamedBytes : Type 0
NamedBytes = List ℕ × List ℕ

-- whether a file of this name is among the files
abbrev pub holds_name : List NamedBytes → List ℕ → Bool
holds_name files name = list_any (λ file. pointwise nat_eq file.0 name) files

-- whether no name stands twice
abbrev pub distinct_names : List NamedBytes → Bool
distinct_names [] = true
distinct_names (file ∷ files) = not (holds_name files file.0) && distinct_names files

-- no name stands twice
abbrev pub HasDistinctNames : List NamedBytes → Type 0
HasDistinctNames files = IsTrue (distinct_names files)

-- the file of a name, where there is one
abbrev pub file_of : List NamedBytes → List ℕ → Option NamedBytes
file_of files name = find (λ file. pointwise nat_eq file.0 name) files

-- what a shelf tells of a file that it looked for
abbrev pub content_found : Option NamedBytes → Content
content_found None = missing
content_found (Some file) = there file.1

-- the content of a name: the bytes of its file, or that it is not there
abbrev pub content_among : List NamedBytes → List ℕ → Content
content_among files name = content_found (file_of files name)

-- whether a call of this number is to fail
abbrev pub is_failing : List ℕ → ℕ → Bool
is_failing failing number = list_any (λ n. n == number) failing

-- one more, where this holds
abbrev pub raised : Bool → ℕ → ℕ
raised happened count = if happened then capped_sum count 1 else count

-- a shelf in memory: its files, the numbers of the fetches that fail, and its counts
pub record MemoryShelf : Type 0 where
  pub files : List NamedBytes
  pub failing : List ℕ
  pub fetches : ℕ
  pub faults : ℕ
  pub misses : ℕ

-- whether the next fetch fails
abbrev pub fetch_fails : MemoryShelf → Bool
fetch_fails shelf = is_failing shelf.failing (capped_sum shelf.fetches 1)

-- whether the next fetch doesn't fail and finds no file of this name
abbrev pub fetch_misses : MemoryShelf → List ℕ → Bool
fetch_misses shelf name = not (fetch_fails shelf) && is_none (file_of shelf.files name)

-- the shelf after a fetch of this name: its files stay, and its counts tell of the fetch
abbrev pub shelf_after : MemoryShelf → List ℕ → MemoryShelf
shelf_after shelf name = record {
  files = shelf.files;
  failing = shelf.failing;
  fetches = capped_sum shelf.fetches 1;
  faults = raised (fetch_fails shelf) shelf.faults;
  misses = raised (fetch_misses shelf name) shelf.misses;
}

-- a sink in memory: what it took, the most bytes that one write takes, the numbers of the writes that fail, and its counts
pub record MemorySink : Type 0 where
  pub taken : List ℕ
  pub most : ℕ
  pub failing : List ℕ
  pub writes : ℕ
  pub faults : ℕ
  pub wants : ℕ

-- whether the next write fails
abbrev pub write_fails : MemorySink → Bool
write_fails sink = is_failing sink.failing (capped_sum sink.writes 1)

-- the sink after a write that was answered so: it took the bytes that it says, and its counts tell of the write
abbrev pub sink_after : Result ℕ SinkFault → MemorySink → List ℕ → MemorySink
sink_after (Ok count) sink piece =
    record sink { writes = capped_sum sink.writes 1; taken = sink.taken ++ take count piece }
sink_after (Err refusal.Failed) sink piece =
    record sink { writes = capped_sum sink.writes 1; faults = capped_sum sink.faults 1 }
sink_after (Err refusal.Memory) sink piece =
    record sink { writes = capped_sum sink.writes 1; wants = capped_sum sink.wants 1 }
