use Rattle.plan_printer.proofs.plans.push_line.Goals as goal

pub returns-in_ok-writeln-in-Group : goal.returns-in_ok-writeln-in-Group
returns-in_ok-writeln-in-Group c = rw c.in-Group.is c.in_ok-writeln-in-Group.ensures.bytes
