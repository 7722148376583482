-- What the lines of a source say, by the line grammar.
use Rattle.std.proofs.Common.{◌≡◌, ℕ, ◌+◌, List, [], ◌∷◌, ◌++◌, length, Bool, true, false, cond, ◌||◌, nat_lt, Option}
use Rattle.std.proofs.Common.{None, Some, Result, Ok, Err, refl, ap}
use Rattle.std.specs.Option.{option_or}
use Rattle.std.specs.List.{AllByRecursion}
use Rattle.alpha_token.specs.Tokens.{tokens}
use Rattle.alpha_text.specs.declared.reader.LineFault.{LineFault}
use Rattle.alpha_text.specs.Reading.{LineStmt, read}
use Rattle.alpha_text.specs.Grammar.{IsLine, IsFirstFault}
use Rattle.alpha_text.proofs.Lines.{read-is}
use Rattle.alpha_text.proofs.LineFaults.{read-fault}
use Rattle.alpha_asm.specs.declared.kind.SourceKind.{SourceKind}
use Rattle.alpha_asm.specs.declared.fault.AsmFault.{AsmFault}
use Rattle.alpha_asm.specs.declared.fault.AsmFault.TheVariants.{Line, Duplicate, Section, LongLine}
use Rattle.alpha_asm.specs.Layout.{layout, end, fields, location_of, is_misplaced_in, repeats_field, repeats_label}
use Rattle.alpha_asm.specs.Assembled.{item_at, refused_read, refused, first_refused}

-- an item is refused as misplaced or repeated, and never as no line
item_refused : (misplaced repeated : Bool) (n m : ℕ) (f : LineFault)
    → cond misplaced (Some (Section n)) (cond repeated (Some (Duplicate n)) None) ≡ Some (Line m f) → ⊥
item_refused true r n m f e = cc
item_refused false true n m f e = cc
item_refused false false n m f e = cc

read_refused : (kind : SourceKind) (is : List LineStmt) (m n : ℕ) (r : Result LineStmt LineFault) (f : LineFault)
    → refused_read kind is m r ≡ Some (Line n f) → (n ≡ m) × (r ≡ Err f)
read_refused kind is m n (Err g) f e = let a : n ≡ m = cc in let b : g ≡ f = cc in (a, ap Err b)
read_refused kind is m n (Ok i) f e =
    absurd (item_refused (is_misplaced_in kind (end is) i.statement)
    (repeats_field (fields (layout is)) i.statement || repeats_label (location_of (layout is)) i.label) m n f e)

pub line_fault : (kind : SourceKind) (is : List LineStmt) (line : List ℕ) (n : ℕ) (f : LineFault)
    → refused kind is line ≡ Some (Line n f) → (n ≡ length is + 1) × IsFirstFault line f
unfolding refused
line_fault kind is line n f h = by (nat_lt 1024 (length line)) h
  where
    by : (long : Bool)
        → cond long (Some (LongLine (length is + 1))) (refused_read kind is (length is + 1) (read line))
        ≡ Some (Line n f)
        → (n ≡ length is + 1) × IsFirstFault line f
    by true e = cc
    by false e =
        let (number, fault) = read_refused kind is (length is + 1) n (read line) f e in
        (number, read-fault line f fault)

read_taken : (kind : SourceKind) (is : List LineStmt) (m : ℕ) (line : List ℕ) (r : Result LineStmt LineFault)
    → read line ≡ r → refused_read kind is m r ≡ None → IsLine (tokens line) (item_at line)
read_taken kind is m line (Err g) e h = cc
read_taken kind is m line (Ok i) e h = let at : item_at line ≡ i = rw e refl in rw at ((read-is line i).0 e)

line_taken : (kind : SourceKind) (is : List LineStmt) (line : List ℕ) → refused kind is line ≡ None
    → IsLine (tokens line) (item_at line)
unfolding refused
line_taken kind is line h = by (nat_lt 1024 (length line)) h
  where
    by : (long : Bool)
        → cond long (Some (LongLine (length is + 1))) (refused_read kind is (length is + 1) (read line)) ≡ None
        → IsLine (tokens line) (item_at line)
    by true e = cc
    by false e = read_taken kind is (length is + 1) line (read line) refl e

pub option_or-None : (a b : Option AsmFault) → option_or a b ≡ None → (a ≡ None) × (b ≡ None)
option_or-None None b h = (refl, h)
option_or-None (Some x) b h = cc

pub lines_taken : (kind : SourceKind) (is : List LineStmt) (ls : List (List ℕ)) → first_refused kind is ls ≡ None
    → AllByRecursion (λ line. IsLine (tokens line) (item_at line)) ls
lines_taken kind is [] h = tt
lines_taken kind is (line ∷ ls) h =
    let (here, there) = option_or-None (refused kind is line) (first_refused kind (is ++ item_at line ∷ []) ls) h in
    (line_taken kind is line here, lines_taken kind (is ++ item_at line ∷ []) ls there)
