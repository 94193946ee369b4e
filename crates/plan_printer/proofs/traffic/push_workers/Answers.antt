use Rattle.std.proofs.Common.{slice_index_or}
use Rattle.plan_printer.specs.TrafficTexts.{worker_line}
use Rattle.plan_printer.proofs.TextLemmas.{next_text}
use Rattle.plan_printer.proofs.traffic.push_workers.Goals as goal

pub loop-worker-preserved : goal.loop-worker-preserved
loop-worker-preserved c =
    next_text (λ w. worker_line w (slice_index_or c.args.received.now w 0) (slice_index_or c.args.listed.now w 0)) c.loop-worker.worker _
    c.loop-worker.invariant c.in_ok-push_worker.ensures
