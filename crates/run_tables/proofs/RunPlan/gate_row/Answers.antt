use Prim.Native.Nat.{◌<◌}
use borrow.Author.Rules.{rules}
use Rattle.run_dealings.specs.Rows.{Rowed}
use Rattle.run_dealings.proofs.RowLaws.{row_reading}
use Rattle.run_tables.proofs.GateLaws.{working, add-left-stands, add-right-stands, scale-stands, scale_constant, offset-stands, offset_constant, sum_at, multiple_at, shifted_at, row_of_points, row_for_points, filled_row}
use Rattle.run_tables.proofs.RunPlan.gate_row.Goals as goal

pub input_row-requires-clause-x_lt_p : goal.input_row-requires-clause-x_lt_p
input_row-requires-clause-x_lt_p c = search working

pub input_row-requires-clause-coined : goal.input_row-requires-clause-coined
input_row-requires-clause-coined c = search working

pub multiply_row-requires-clause-coined : goal.multiply_row-requires-clause-coined
multiply_row-requires-clause-coined c = search working

pub multiply_row-requires-clause-rowed : goal.multiply_row-requires-clause-rowed
multiply_row-requires-clause-rowed c = search working

pub multiply_row-requires-clause-rowed_2 : goal.multiply_row-requires-clause-rowed_2
multiply_row-requires-clause-rowed_2 c = search working

pub returns-in-Input : goal.returns-in-Input
returns-in-Input c = search working

pub returns-in-Spend : goal.returns-in-Spend
returns-in-Spend c = search working

pub multiply_row-requires-clause-t_bound : goal.multiply_row-requires-clause-t_bound
multiply_row-requires-clause-t_bound c = search working

pub fill_row-requires : goal.fill_row-requires
fill_row-requires c =
    λ j l.
    let within : j < c.args.self.now.plan.now.header.n = rw c.requires.row_len at l in
    let left : Rowed c.args.self.now.plan.now.header.field.p c.args.self.now.plan.now.header.n c.in-Add.a c.args.table.now = add-left-stands _ _ c.args.self.now.plan.now.planned _ c.requires.g_lt_gates _ c.requires.gate_value _ c.requires.standing _ _ c.in-Add.is in
    let right : Rowed c.args.self.now.plan.now.header.field.p c.args.self.now.plan.now.header.n c.in-Add.b c.args.table.now = add-right-stands _ _ c.args.self.now.plan.now.planned _ c.requires.g_lt_gates _ c.requires.gate_value _ c.requires.standing _ _ c.in-Add.is in
    search (row_reading, within)

pub returns-in-Add : goal.returns-in-Add
returns-in-Add c =
    let h = c.args.self.now.plan.now.header in
    let made = filled_row _ h.n _ _ c.requires.row_len (c.fill_row.ensures (sum_at h.field.p h.n c.in-Add.a c.in-Add.b c.args.table.now) (λ j r l q. search rules)) in
    search working

pub fill_row-requires-in-Scale : goal.fill_row-requires-in-Scale
fill_row-requires-in-Scale c =
    λ j l.
    let within : j < c.args.self.now.plan.now.header.n = rw c.requires.row_len at l in
    let row : Rowed c.args.self.now.plan.now.header.field.p c.args.self.now.plan.now.header.n c.in-Scale.a c.args.table.now = scale-stands _ _ c.args.self.now.plan.now.planned _ c.requires.g_lt_gates _ c.requires.gate_value _ c.requires.standing _ _ c.in-Scale.is in
    let small : c.in-Scale.c < c.args.self.now.plan.now.header.field.p = scale_constant _ _ c.args.self.now.plan.now.planned _ c.requires.g_lt_gates _ c.requires.gate_value _ c.requires.standing _ _ c.in-Scale.is in
    search (row_reading, within)

pub returns-in-Scale : goal.returns-in-Scale
returns-in-Scale c =
    let h = c.args.self.now.plan.now.header in
    let made = filled_row _ h.n _ _ c.requires.row_len (c.fill_row-in-Scale.ensures (multiple_at h.field.p h.n c.in-Scale.a c.in-Scale.c c.args.table.now) (λ j r l q. search rules)) in
    search working

pub fill_row-requires-in-Offset : goal.fill_row-requires-in-Offset
fill_row-requires-in-Offset c =
    λ j l.
    let within : j < c.args.self.now.plan.now.header.n = rw c.requires.row_len at l in
    let row : Rowed c.args.self.now.plan.now.header.field.p c.args.self.now.plan.now.header.n c.in-Offset.a c.args.table.now = offset-stands _ _ c.args.self.now.plan.now.planned _ c.requires.g_lt_gates _ c.requires.gate_value _ c.requires.standing _ _ c.in-Offset.is in
    let small : c.in-Offset.c < c.args.self.now.plan.now.header.field.p = offset_constant _ _ c.args.self.now.plan.now.planned _ c.requires.g_lt_gates _ c.requires.gate_value _ c.requires.standing _ _ c.in-Offset.is in
    search (row_reading, within)

pub returns-in-Offset : goal.returns-in-Offset
returns-in-Offset c =
    let h = c.args.self.now.plan.now.header in
    let made = filled_row _ h.n _ _ c.requires.row_len (c.fill_row-in-Offset.ensures (shifted_at h.field.p h.n c.in-Offset.a c.in-Offset.c c.args.table.now) (λ j r l q. search rules)) in
    search working

pub random_row-requires-clause-inputs_value : goal.random_row-requires-clause-inputs_value
random_row-requires-clause-inputs_value c = search working

pub random_row-requires-clause-coined : goal.random_row-requires-clause-coined
random_row-requires-clause-coined c = search working

pub returns-in-Random : goal.returns-in-Random
returns-in-Random c = search working

pub truncated_row-requires-clause-coined : goal.truncated_row-requires-clause-coined
truncated_row-requires-clause-coined c = search working

pub truncated_row-requires-clause-rowed : goal.truncated_row-requires-clause-rowed
truncated_row-requires-clause-rowed c = search working

pub truncated_row-requires-clause-rowed_2 : goal.truncated_row-requires-clause-rowed_2
truncated_row-requires-clause-rowed_2 c = search working

pub returns-in-Some : goal.returns-in-Some
returns-in-Some c = search working

pub spent_row-requires-clause-t_in_bounds : goal.spent_row-requires-clause-t_in_bounds
spent_row-requires-clause-t_in_bounds c = search working

pub spent_row-requires-clause-points_value : goal.spent_row-requires-clause-points_value
spent_row-requires-clause-points_value c = search working

pub spent_row-requires-clause-spending : goal.spent_row-requires-clause-spending
spent_row-requires-clause-spending c = search working

pub spent_row-requires-clause-rowed : goal.spent_row-requires-clause-rowed
spent_row-requires-clause-rowed c = search working

pub spent_row-requires-clause-rowed_2 : goal.spent_row-requires-clause-rowed_2
spent_row-requires-clause-rowed_2 c = search working

pub input_row-requires-clause-row_in_bounds : goal.input_row-requires-clause-row_in_bounds
input_row-requires-clause-row_in_bounds c = row_for_points _ _ _ _ _ _ c.args.self.now.fitted c.args.self.now.plan.now.planned _ c.requires.row_len

pub multiply_row-requires-clause-row_in_bounds : goal.multiply_row-requires-clause-row_in_bounds
multiply_row-requires-clause-row_in_bounds c = row_for_points _ _ _ _ _ _ c.args.self.now.fitted c.args.self.now.plan.now.planned _ c.requires.row_len

pub truncated_row-requires-clause-row_len : goal.truncated_row-requires-clause-row_len
truncated_row-requires-clause-row_len c = row_of_points _ _ _ _ _ _ c.args.self.now.fitted c.args.self.now.plan.now.planned _ c.requires.row_len

pub random_row-requires-clause-row_in_bounds : goal.random_row-requires-clause-row_in_bounds
random_row-requires-clause-row_in_bounds c = row_for_points _ _ _ _ _ _ c.args.self.now.fitted c.args.self.now.plan.now.planned _ c.requires.row_len

pub spent_row-requires-clause-row_in_bounds : goal.spent_row-requires-clause-row_in_bounds
spent_row-requires-clause-row_in_bounds c = row_for_points _ _ _ _ _ _ c.args.self.now.fitted c.args.self.now.plan.now.planned _ c.requires.row_len
