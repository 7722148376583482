-- An instruction has one row and one word.
use Rattle.std.proofs.Common.{◌≡◌, ◌<◌, ◌^◌, ℕ, refl, sym, ap, subst}
use Rattle.std.specs.Option.{unwrap_or}
use Rattle.alpha_words.specs.Field.{field}
use Rattle.alpha_table.specs.declared.rows.JumpKind.{JumpKind}
use Rattle.alpha_table.specs.declared.rows.JumpKind.TheVariants as jumps
use Rattle.alpha_table.specs.declared.form.Form.{Form}
use Rattle.alpha_table.specs.declared.form.Form.TheVariants.{Mem, Branch, Jump, Operate, Misc, Fetch, Pal}
use Rattle.alpha_table.specs.declared.insn.Insn.TheInside.{Inside}
use Rattle.alpha_table.specs.Rows.{jump_kind}
use Rattle.alpha_table.specs.Row.{Row}
use Rattle.alpha_table.specs.Decoded.{jump_at}
use Rattle.alpha_table.specs.Encoded.{encoded}
use Rattle.alpha_table.specs.Insn.{form_in, form_row, Decodes, form_of, IsKnown}
use Rattle.alpha_table.proofs.Lookups.{jump_known}
use Rattle.alpha_table.proofs.DecodedInsns.{SourceField-source_in, Row-injective, IsInsn-Row}
use Rattle.alpha_table.proofs.InsnWords.{encoded-Row}

kind_at : (n : ℕ) (kind : JumpKind) → n ≡ jump_kind kind → unwrap_or (jump_at n) jumps.Jmp ≡ kind
kind_at n kind e = rw (e, (jump_known kind).0) refl

-- the instruction that a word stands for is the one that it has by the row
pub same_form : (w : ℕ) (form : Form) → Row w form → form_in (form_row form) w ≡ form
same_form w (Mem op ra rb disp) h = rw (h.1, h.2, h.3) refl
same_form w (Branch op ra disp) h = rw (h.1, h.2) refl
same_form w (Jump kind ra rb hint) h = rw (kind_at (field 15 14 w) kind h.3, h.1, h.2, h.4) refl
same_form w (Operate op ra src rc) h = rw (SourceField-source_in w src h.3, h.2, h.4) refl
same_form w (Misc op) h = refl
same_form w (Fetch modify rb) h = rw h.2 refl
same_form w (Pal call) h = refl

-- an instruction's word stands for it by its row
pub Row-Decodes : (w : ℕ) (form : Form) → Row w form → Decodes (form_row form) w
Row-Decodes w form h =
    let same = same_form w form h in
    (ap form_row same, subst (Row w) (sym same) h)

-- an instruction has one row and one word
pub IsKnown-decoded : (i : Inside) → i.word.0 < 2 ^ 32 → Decodes i.row i.word.0 → IsKnown i
IsKnown-decoded i small h =
    let e = encoded-Row (form_of i) (IsInsn-Row i.word.0 (form_of i) h.1) in
    let word : encoded (form_of i) ≡ i.word.0 =
    Row-injective (encoded (form_of i)) i.word.0 (form_of i) e.0 small e.1 h.1 in
    (IsInsn-Row i.word.0 (form_of i) h.1, λ place. record { row = h.0 place; word = record { 0 = word place } })

-- its word stands for it, by its row
pub IsKnown-Row : (i : Inside) → IsKnown i → (Row i.word.0 (form_of i)) × Decodes i.row i.word.0
IsKnown-Row i h =
    let row : Row i.word.0 (form_of i) =
    subst (λ w. Row w (form_of i)) (ap (λ (j : Inside). j.word.0) h.1) (encoded-Row (form_of i) h.0).1 in
    (row, (ap (λ (j : Inside). j.row) h.1, row))
