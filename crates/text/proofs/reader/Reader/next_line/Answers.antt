use Rattle.std.proofs.Common.{◌≡◌, ◌+◌, drop, sym, ap, ◌∙◌}
use Rattle.text.specs.Lines.{newline, Cut}
use Rattle.text.specs.Reading.{Reading, rest}
use Rattle.text.proofs.Cutting.{back_at}
use Rattle.text.proofs.reader.Reader.next_line.Goals as goal

pub returns : goal.returns
returns c =
    let was = c.self.inside in
    let text = c.in_ok-text.text.now in
    let left : rest c.args.self.now ≡ drop was.at was.bytes.now = sym (ap rest c.self.view_is) in
    let is : Cut newline (drop was.at was.bytes.now) text c.in_ok-text.field-0-1.now = rw (c.rest.ensures, left) at c.in_ok-text.ensures in
    record {
      split = left ∙ rw (back_at newline was.at was.bytes.now text c.in_ok-text.field-0-1.now is) is.split;
      free = is.free;
      number = ap (λ (r : Reading). r.number + 1) c.self.view_is;
      counted = ap (λ (r : Reading). r.number + 1) c.self.view_is;
      bytes = ap (λ (r : Reading). r.bytes) c.self.view_is;
    }
