-- the pieces that are left
use Rattle.std.proofs.Common.{length}
use Rattle.myria_top.proofs.messages.+offer_all.Given as goal

abbrev pub decreases-offer_all : goal.decreases-offer_all
decreases-offer_all g l = length l.pieces.now
