use Rattle.seat_sending.proofs.WrittenLaws.{calling}
use Rattle.seat_sending.proofs.send.Goals as goal

pub results-requires-clause-out_len_bound : goal.results-requires-clause-out_len_bound
results-requires-clause-out_len_bound c = search calling

pub returns-then-k-last_call : goal.returns-then-k-last_call
returns-then-k-last_call c = search calling

pub send-requires-clause-out_len : goal.send-requires-clause-out_len
send-requires-clause-out_len c = search calling

pub returns : goal.returns
returns c = search calling
