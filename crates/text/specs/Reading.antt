-- What a reader has left, and how a line is handed out.
use Rattle.std.specs.Prelude.{◌≡◌, ℕ, ◌+◌, ◌≤◌, List, ◌∷◌, ◌++◌, length, drop}
use Rattle.text.specs.Lines.{newline, Free}
use Rattle.text.specs.declared.reader.Line.{Line}

-- a text, a place in it, and how many lines were handed out: all of them before the place, each with a byte of its own
pub record Reading : Type 0 where
  pub bytes : List ℕ
  pub at : ℕ
  pub number : ℕ
  pub within : at ≤ length bytes
  pub few : number ≤ at

-- what is left to read
abbrev pub rest : Reading → List ℕ
rest r = drop r.at r.bytes

-- a line goes out, and leaves what is behind its newline
pub record Handed (entry : Reading) (line : Line) (exit : Reading) : Type 0 where
  pub split : rest entry ≡ line.text.now ++ (newline ∷ rest exit)
  pub free : Free newline line.text.now
  pub number : line.number ≡ entry.number + 1
  pub counted : exit.number ≡ entry.number + 1
  pub bytes : exit.bytes ≡ entry.bytes
