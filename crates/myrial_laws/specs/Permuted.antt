-- Rows in another order: bags of rows that are the same, one after another.
--
--   SameTable t u         one relation with its rows in another order
--   SameFiles fs gs       the same keys, each with one relation with its rows in another order
pub use Rattle.myrial_meaning.specs.Permuted.{SameTable, SameFiles, no_file, a_file}
