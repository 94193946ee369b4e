use Rattle.myrial_types.proofs.terms.equality_of.Goals as goal

-- the conjunct as a whole is asked
pub returns : goal.returns
returns c = c.equality.ensures
