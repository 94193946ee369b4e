-- Worked rows of the outside, each by computing.
use Rattle.std.proofs.Common.{◌≡◌, ℕ, inl, inr, lit<, arith, true, false, List, [], ◌∷◌, Some, Ok, Err, refl}
use Rattle.std.specs.Prelude.{codes}
use Rattle.rel_io.specs.Outside.{Rose, missing, there, IsGiven, MayBeMissing, TakesPart, capped_sum}
use Rattle.rel_io.specs.Taps.{with_sent, with_got}
use Rattle.rel_io.specs.InMemory.{NamedBytes, MemoryShelf, MemorySink, distinct_names, content_among, fetch_fails, shelf_after, write_fails, sink_after}
use Rattle.rel_io.specs.Refusals.{shelf_fault_text, sink_fault_text}
use Rattle.rel_io.specs.declared.shelves.ShelfFault.TheVariants as unread
use Rattle.rel_io.specs.declared.sinks.SinkFault.TheVariants as refusal

-- ---- counts

pub Rose-more : Rose 3 4
Rose-more = inl (lit< tt)

pub Rose-at_the_last_value : Rose 18446744073709551615 18446744073709551615
Rose-at_the_last_value = inr refl

pub Rose-unchanged : Rose 3 3 → ⊥
Rose-unchanged (inl more) = omega arith
Rose-unchanged (inr last) = omega arith

pub capped_sum-small : capped_sum 3 4 ≡ 7
capped_sum-small = refl

pub capped_sum-at_the_last_value : capped_sum 18446744073709551615 1 ≡ 18446744073709551615
capped_sum-at_the_last_value = refl

-- ---- taps

pub with_got-three : with_got (record { sent = 1; got = 40; listed = 2 }) 3 ≡ record { sent = 1; got = 43; listed = 2 }
with_got-three = refl

pub with_sent-at_the_last_value : with_sent (record { sent = 18446744073709551615; got = 4; listed = 2 }) 1 ≡ record { sent = 18446744073709551615; got = 4; listed = 2 }
with_sent-at_the_last_value = refl

-- ---- content

pub IsGiven-beginning : IsGiven (there (codes "alpha")) 3 (codes "alp")
IsGiven-beginning = refl

pub IsGiven-whole : IsGiven (there (codes "alpha")) 6 (codes "alpha")
IsGiven-whole = refl

pub IsGiven-missing : IsGiven missing 6 [] → ⊥
IsGiven-missing given = given

pub MayBeMissing-there : MayBeMissing (there []) → ⊥
MayBeMissing-there absent = absent

-- ---- a shelf of two files whose third fetch fails

abbrev pub two_files : List NamedBytes
two_files = (codes "a", codes "alpha") ∷ (codes "b", []) ∷ []

pub distinct_names-two_files : distinct_names two_files ≡ true
distinct_names-two_files = refl

pub distinct_names-one_twice : distinct_names ((codes "a", []) ∷ two_files) ≡ false
distinct_names-one_twice = refl

pub content_among-there : content_among two_files (codes "a") ≡ there (codes "alpha")
content_among-there = refl

pub content_among-empty_file : content_among two_files (codes "b") ≡ there []
content_among-empty_file = refl

pub content_among-missing : content_among two_files (codes "c") ≡ missing
content_among-missing = refl

pub content_among-empty_name : content_among two_files [] ≡ missing
content_among-empty_name = refl

abbrev pub shelf_at : ℕ → MemoryShelf
shelf_at fetches = record { files = two_files; failing = 3 ∷ []; fetches = fetches; faults = 0; misses = 0 }

pub fetch_fails-third : (fetch_fails (shelf_at 1) ≡ false) × (fetch_fails (shelf_at 2) ≡ true) × (fetch_fails (shelf_at 3) ≡ false)
fetch_fails-third = (refl, refl, refl)

pub shelf_after-third : shelf_after (shelf_at 2) (codes "c") ≡ record { files = two_files; failing = 3 ∷ []; fetches = 3; faults = 1; misses = 0 }
shelf_after-third = refl

pub shelf_after-miss : shelf_after (shelf_at 3) (codes "c") ≡ record { files = two_files; failing = 3 ∷ []; fetches = 4; faults = 0; misses = 1 }
shelf_after-miss = refl

-- ---- a sink that takes two bytes at a time and fails at its third write

abbrev pub sink_at : ℕ → MemorySink
sink_at writes = record { taken = codes "ab"; most = 2; failing = 3 ∷ []; writes = writes; faults = 0; wants = 0 }

pub write_fails-third : (write_fails (sink_at 1) ≡ false) × (write_fails (sink_at 2) ≡ true)
write_fails-third = (refl, refl)

pub sink_after-two_bytes : sink_after (Ok 2) (sink_at 1) (codes "cdef") ≡ record { taken = codes "abcd"; most = 2; failing = 3 ∷ []; writes = 2; faults = 0; wants = 0 }
sink_after-two_bytes = refl

pub sink_after-fault : sink_after (Err refusal.Failed) (sink_at 2) (codes "ef") ≡ record { taken = codes "ab"; most = 2; failing = 3 ∷ []; writes = 3; faults = 1; wants = 0 }
sink_after-fault = refl

pub sink_after-want : sink_after (Err refusal.Memory) (sink_at 3) (codes "ef") ≡ record { taken = codes "ab"; most = 2; failing = 3 ∷ []; writes = 4; faults = 0; wants = 1 }
sink_after-want = refl

pub TakesPart-two_of_three : TakesPart (Some (codes "ab")) (Some (codes "abcd")) (codes "cde")
TakesPart-two_of_three = record { count = 2; short = lit< tt; appended = refl }

-- ---- refusals in words

pub shelf_fault_text-each : (shelf_fault_text unread.Failed ≡ codes "the file could not be read") × (shelf_fault_text unread.Absent ≡ codes "the file is not there") × (shelf_fault_text unread.Memory ≡ codes "out of memory")
shelf_fault_text-each = (refl, refl, refl)

pub sink_fault_text-each : (sink_fault_text refusal.Failed ≡ codes "the output could not be written") × (sink_fault_text refusal.Memory ≡ codes "out of memory")
sink_fault_text-each = (refl, refl)
