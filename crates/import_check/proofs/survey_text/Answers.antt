use Rattle.import_check.proofs.Counting.{surveying}
use Rattle.import_check.proofs.survey_text.Goals as goal

pub returns-in_err-h : goal.returns-in_err-h
returns-in_err-h c = search (surveying, c.in_err-h.was)

pub returns-then-not-head_ok : goal.returns-then-not-head_ok
returns-then-not-head_ok c = search (surveying, c.in_ok-h.was)

pub returns-in_err-size : goal.returns-in_err-size
returns-in_err-size c = search (surveying, c.in_ok-h.was, c.in_err-size.was)

pub returns : goal.returns
returns c = search (surveying, c.in_ok-h.was, c.in_ok-size.was)
