use Rattle.charge_parts.proofs.share.Goals as goal
use Rattle.charge_parts.proofs.Sharing.{sharing}

pub give-requires : goal.give-requires
give-requires c = record { some = search sharing; fits = search sharing }

pub returns-clause-parts : goal.returns-clause-parts
returns-clause-parts c = search sharing

pub returns-clause-rests : goal.returns-clause-rests
returns-clause-rests c = search sharing
