-- A sheet of decimals: a basis, then a depth a line. What it prints. Definitions only.
use Rattle.std.specs.Prelude.{Bool, true, false, cond, ◌&&◌, List, [], ℕ, suc, leb, ltb, eqb, length, drop, get_or, Float, Some, None, Option}
use Rattle.basis.specs.declared.Basis.{Basis}
use Rattle.error.specs.declared.Refusal.{Refusal}
use Rattle.error.specs.declared.Refusal.TheVariants.{TooMany, BadSheet}
use Rattle.text.specs.Text.{tab_of}
use Rattle.text_decimals.specs.Decimals.{MINUS, thousandths_of}
use Rattle.sheet_depth.specs.Depth.{depth_of}
use Rattle.keeper.specs.Table.{places, has_room, kept}
use Rattle.lines_record.specs.Record.{named_of}
use Rattle.lines_reply.specs.Reply.{refused, curve, text_of}
use Rattle.lines_machine.specs.Program.{Line, so, over, Program}

-- ---- a depth line
abbrev pub signed : Bool → Option ℕ → Option (Bool × ℕ)
signed minus (Some n) = Some (minus, n)
signed minus None = None

-- an optional minus, and a decimal
unfoldable pub depth_in : List ℕ → Option (Bool × ℕ)
depth_in s = cond (eqb (get_or s 0 0) MINUS) (signed true (thousandths_of (drop 1 s))) (signed false (thousandths_of s))

-- a label of 1 to 16 bytes, a tab, and a depth
unfoldable pub depth_line : List ℕ → Option (Bool × ℕ)
depth_line l = let t = tab_of l in cond (ltb t (length l) && leb 1 t && leb t 16) (depth_in (drop (suc t) l)) None

-- ---- the sheet
-- no line yet; a basis and the depths so far; or a line at fault, which decides
pub data Sheet : Type 0 where
  unbegun : Sheet
  on : Basis → List Float → Sheet
  faulty : Refusal → Sheet

abbrev pub most : ℕ
most = places

abbrev pub named : Option Basis → Sheet
named (Some b) = on b []
named None = faulty BadSheet

-- one knot for each depth line; 3 at the 4,097th
abbrev pub added : Basis → List Float → Option (Bool × ℕ) → Sheet
added b ks (Some (minus, n)) = cond (has_room ks) (on b (kept ks (depth_of minus n))) (faulty TooMany)
added b ks None = faulty BadSheet

-- the first line is the name of a basis, each other a depth; after a fault nothing counts
unfoldable pub after_of : Sheet → Line → Sheet
after_of unbegun (so l) = named (named_of l)
after_of unbegun over = faulty BadSheet
after_of (on b ks) (so l) = added b ks (depth_line l)
after_of (on b ks) over = faulty BadSheet
after_of (faulty r) (so l) = faulty r
after_of (faulty r) over = faulty r

-- the records, or the refusal alone: nothing is printed before the last line was read
unfoldable pub ends_of : Sheet → List ℕ
ends_of unbegun = text_of (refused BadSheet)
ends_of (on b ks) = text_of (curve b [] ks)
ends_of (faulty r) = text_of (refused r)

abbrev pub sheet_program : Program Sheet
sheet_program = record { tells = λ s o. []; after = λ s o. after_of s o; ends = λ s. ends_of s }
