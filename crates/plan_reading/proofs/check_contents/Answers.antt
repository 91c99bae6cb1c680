use Rattle.plan_reading.proofs.Ways.{contents}
use Rattle.plan_reading.proofs.check_contents.Goals as goal

pub returns-then-not-contains : goal.returns-then-not-contains
returns-then-not-contains c = search contents

pub returns-then-not-parties_ok : goal.returns-then-not-parties_ok
returns-then-not-parties_ok c = search contents

pub returns-then-not-threshold_ok : goal.returns-then-not-threshold_ok
returns-then-not-threshold_ok c = search contents
