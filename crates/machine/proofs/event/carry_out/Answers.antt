-- `carry_out` meets its contract: by the task.
use Rattle.machine.proofs.Words.{◌≡◌, ap, sym, ◌∙◌, state}
use Rattle.storage.specs.Rows.Part.{put}
use Rattle.storage.proofs.RowsLaws.Parts.{put-nil}
use Rattle.machine.specs.Outcomes.{task_bytes}
use Rattle.machine.specs.declared.event.Task.{Task}
use Rattle.machine.proofs.event.carry_out.Goals as goal
use Rattle.machine.proofs.event.carry_out.Goals.{Start}

as_bytes : (s : Start) {t : Task} → s.args.task.now ≡ t → put 0 (task_bytes s.args.call.now t (state s.args.panel.now)) s.args.out.now ≡ put 0 (task_bytes s.args.call.now s.args.task.now (state s.args.panel.now)) s.args.out.now
as_bytes s e = ap (λ (t : Task). put 0 (task_bytes s.args.call.now t (state s.args.panel.now)) s.args.out.now) (sym e)

pub returns-in-Up-clause-output : goal.returns-in-Up-clause-output
returns-in-Up-clause-output c = sym (put-nil 0 c.args.out.now) ∙ as_bytes (goal.at.returns-in-Up-clause-output c).Start c.in-Up.is

pub returns-in-Down-clause-output : goal.returns-in-Down-clause-output
returns-in-Down-clause-output c = sym (put-nil 0 c.args.out.now) ∙ as_bytes (goal.at.returns-in-Down-clause-output c).Start c.in-Down.is
