use Rattle.seat_sending.proofs.InputLaws.{receiving}
use Rattle.seat_sending.proofs.Sender.send_inputs.Goals as goal

pub loop-x-init : goal.loop-x-init
loop-x-init c = search receiving

pub send_inputs_to-at-requires-clause-x_lt_p : goal.send_inputs_to-at-requires-clause-x_lt_p
send_inputs_to-at-requires-clause-x_lt_p c = search receiving

pub loop-x-preserved : goal.loop-x-preserved
loop-x-preserved c = search receiving

pub returns : goal.returns
returns c = search receiving
