-- Each row of the table by opcode and function is that of its place.
use Rattle.std.proofs.Common.{◌≡◌, ◌<◌, ◌+◌, ℕ, true, ◌&&◌, ◌==◌, List, [], ◌∷◌, length, refl, subst, arith}
use Rattle.std.specs.Prelude.{slice_index_or}
use Rattle.std.proofs.lemmas.Bool.{eqb-true, and_parts}
use Prim.Native.Nat.{zero, suc}
use Rattle.alpha_table.specs.declared.insn.InsnRow.{InsnRow}
use Rattle.alpha_table.specs.declared.table.TheConstants.{ROWS}
use Rattle.alpha_table.specs.Insn.{matches_row, all_suit, tables_suit}

row_suits : (rows : List InsnRow) (opcode first function n : ℕ) (d : InsnRow) → all_suit opcode first rows ≡ true
    → function < length rows → first + function ≡ n
    → matches_row opcode n (slice_index_or rows function d) ≡ true
row_suits [] opcode first function n d all within e = absurd (omega arith)
row_suits (r ∷ rs) opcode first zero n d all within e =
    let same : first ≡ n = omega arith in
    subst (λ k. matches_row opcode k r ≡ true) same
    (and_parts (matches_row opcode first r) (all_suit opcode (first + 1) rs) all).0
row_suits (r ∷ rs) opcode first (suc function) n d all within e =
    row_suits rs opcode (first + 1) function n d
    (and_parts (matches_row opcode first r) (all_suit opcode (first + 1) rs) all).1 (omega arith) (omega arith)

-- the row at a place of the tables suits it
pub tables-row_at : (tables : List (List InsnRow)) (first opcode function n : ℕ) (d : InsnRow)
    → tables_suit first tables ≡ true → opcode < length tables → function < 128 → first + opcode ≡ n
    → matches_row n function (slice_index_or (slice_index_or tables opcode []) function d) ≡ true
tables-row_at [] first opcode function n d all within small e = absurd (omega arith)
tables-row_at (t ∷ ts) first zero function n d all within small e =
    let here = and_parts (length t == 128) (all_suit first 0 t)
    (and_parts (length t == 128 && all_suit first 0 t) (tables_suit (first + 1) ts) all).0 in
    let size : length t ≡ 128 = eqb-true (length t) 128 here.0 in
    let same : first ≡ n = omega arith in
    subst (λ k. matches_row k function (slice_index_or t function d) ≡ true) same
    (row_suits t first 0 function function d here.1 (omega arith) (omega arith))
tables-row_at (t ∷ ts) first (suc opcode) function n d all within small e =
    tables-row_at ts (first + 1) opcode function n d
    (and_parts (length t == 128 && all_suit first 0 t) (tables_suit (first + 1) ts) all).1 (omega arith) small
    (omega arith)

-- each row of the tables is that of its place
pub rows_suit : tables_suit 0 ROWS ≡ true
rows_suit = refl
