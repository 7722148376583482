-- Lines in a row, and what they say.
use Rattle.std.proofs.Common.{◌≡◌, ◌∙◌, ℕ, zero, suc, ◌+◌, ◌-◌, ◌<◌, ◌≤◌, ◌^◌, true, min, List, [], ◌++◌, length, take}
use Rattle.std.proofs.Common.{drop, Option, Some, sym, ap, append_assoc, append-nil, ⊎_elim, arith}
use Rattle.std.proofs.Math.Nat.{eq-or-lt_of_le}
use Rattle.std.proofs.lemmas.List.{length-drop, take_all}
use Rattle.std.proofs.lemmas.Bool.{cases_lt}
use Rattle.std.specs.Option.{option_map_or}
use Rattle.alpha_table.specs.declared.form.Form.{Form}
use Rattle.alpha_table.specs.Decoded.{decoded}
use Rattle.alpha_text.specs.Canon.{canon}
use Rattle.alpha_mem.specs.Intent.{Load}
use Rattle.alpha_mem.specs.Block.{Block, shapes, within}
use Rattle.alpha_mem.specs.Memory.{bytes_at, IsMemory}
use Rattle.alpha_mem.proofs.LawLemmas.{length-bytes_at, within-below}
use Rattle.alpha_debug.specs.Lines.{rows}

pub canon_of_decoded : (word : ℕ) (i : Form) → decoded word ≡ Some i → option_map_or canon (decoded word) [] ≡ canon i
canon_of_decoded word i e = ap (λ (o : Option Form). option_map_or canon o []) e

-- n rows are those before one, the one and some more
pub record RowsBehind (row : ℕ → List ℕ) (n k : ℕ) : Type 0 where
  pub more : List ℕ
  pub is : rows row n ≡ (rows row k ++ row k) ++ more

pub rows-rest : (row : ℕ → List ℕ) (n k : ℕ) → k < n → RowsBehind row n k
rows-rest row zero k l = absurd (omega arith)
rows-rest row (suc n) k l =
    ⊎_elim
    (λ (same : k ≡ n).
    record { more = []; is = ap (λ (j : ℕ). rows row j ++ row j) (sym same) ∙ sym (append-nil (rows row k ++ row k)) })
    (λ (below : k < n).
    let before = rows-rest row n k below in
    record {
      more = before.more ++ row n;
      is = ap (λ (l : List ℕ). l ++ row n) before.is ∙ append_assoc (rows row k ++ row k) before.more (row n);
    })
    (eq-or-lt_of_le (let most : k ≤ n = omega (arith, l) in most))

pub rows-more : (row : ℕ → List ℕ) (n : ℕ) → rows row (n + 1) ≡ rows row n ++ row n
rows-more row n = let next : n + 1 ≡ suc n = omega arith in ap (rows row) next

-- a row is sixteen bytes, or those that are left
pub row-range : (bytes : List ℕ) (front end : ℕ) → end ≡ min (length bytes) (front + 16)
    → take (end - front) (drop front bytes) ≡ take 16 (drop front bytes)
row-range bytes front end e =
    ⊎_elim
    (λ (short : length bytes < front + 16).
    take_all (end - front) (drop front bytes) (omega (arith, length-drop front bytes))
    ∙ sym (take_all 16 (drop front bytes) (omega (arith, length-drop front bytes))))
    (λ (long : front + 16 ≤ length bytes).
    ap (λ (k : ℕ). take k (drop front bytes)) {x = end - front} {y = 16} (omega arith))
    (cases_lt (length bytes) (front + 16))

-- where the bytes of a range end
pub range-below : (m : List Block) (at count : ℕ) (bytes : List ℕ) → IsMemory m → within (shapes m) Load at count ≡ true
    → bytes ≡ bytes_at m at count → at < 2 ^ 64
    → at + length bytes < 2 ^ 64
range-below m at count bytes good there e fits =
    let size : length (bytes_at m at count) ≡ count = length-bytes_at m at count there in
    ⊎_elim
    (λ (some : 0 < count). let below = within-below (shapes m) Load at count good.layout some there in
    omega (arith, ap length e))
    (λ (none : count ≤ 0). omega (arith, ap length e))
    (cases_lt 0 count)
