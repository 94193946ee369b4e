-- the counter is that of the ledger which is handed in
use Rattle.value_tests.proofs.values.counted_steps_take_no_bytes.Given as goal

abbrev pub ghosts-count_to_two : goal.ghosts-count_to_two
ghosts-count_to_two g a = record { name = a.ledger.name; parts = a.ledger.parts }
