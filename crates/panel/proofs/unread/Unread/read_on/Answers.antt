-- `read_on`: what was read stands behind the unread bytes.
use Rattle.std.proofs.Common.{List, ℕ, ◌-◌, ◌++◌, arith, sym, ap, ◌∙◌, length, take}
use Rattle.std.specs.List.{slice_range}
use Rattle.panel.specs.declared.unread.TheConstants.{ROOM}
use Rattle.panel.proofs.Unreads.{length-part, part-read, some-room}
use Rattle.panel.proofs.unread.Unread.read_on.Goals as goal

pub returns-clause-ok : goal.returns-clause-ok
returns-clause-ok g c =
    let u = c.self.inside in
    let n = c.in_ok-n.n in
    let came = c.take_some.new.buf in
    let unread = length-part u.buffer u.start u.end c.self.invariant.0 c.self.invariant.1 in
    record {
      came = take n came;
      many = sym c.in_ok-n.ensures.bound.1;
      joined =
          part-read (slice_range u.buffer u.start u.end) c.move_to_front.new.buffer came (u.end - u.start) _ n c.move_to_front.ensures unread c.in_ok-n.ensures.bound.0
          ∙ ap (λ (xs : List ℕ). xs ++ take n came) c.self.view_is;
      taken = c.in_ok-n.ensures.bytes.0;
      ended = λ none. c.in_ok-n.ensures.bytes.1 none (some-room (u.end - u.start) ROOM c.move_to_front.new.buffer came c.take_some.auto.buf (omega arith) (omega (arith, c.requires, unread, ap length c.self.view_is)));
    }
