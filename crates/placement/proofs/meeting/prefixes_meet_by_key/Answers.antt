use Rattle.placement.proofs.PrefixLemmas.{prefixes_meet_by_key}
use Rattle.placement.proofs.meeting.prefixes_meet_by_key.Goals as goal

pub returns : goal.returns
returns c = prefixes_meet_by_key
