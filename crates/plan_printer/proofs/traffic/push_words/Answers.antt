use Rattle.plan_printer.proofs.traffic.push_words.Goals as goal

pub returns-in_ok-write-in-Rs : goal.returns-in_ok-write-in-Rs
returns-in_ok-write-in-Rs c = rw c.in-Rs.is c.in_ok-write-in-Rs.ensures.bytes
