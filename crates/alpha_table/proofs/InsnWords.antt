-- Each instruction has a word of its own.
use Rattle.std.proofs.Common.{◌≡◌, ℕ, ℤ, pos, negsuc, ◌+◌, ◌-◌, ◌*◌, ◌^◌, ◌<◌, ◌≤◌, ◌+ℤ◌, ◌-ℤ◌, ◌≤ℤ◌, ◌<ℤ◌, ltb, cond}
use Rattle.std.proofs.Common.{refl, arith}
use Rattle.std.proofs.lemmas.Bool.{lt-ltb, le-ltb}
use Rattle.std.proofs.lemmas.Int.{ints}
use Rattle.alpha_words.specs.Field.{field}
use Rattle.alpha_table.specs.declared.form.Src.TheVariants.{Reg, Lit}
use Rattle.alpha_table.specs.declared.form.Form.{Form}
use Rattle.alpha_table.specs.declared.form.Form.TheVariants.{Mem, Branch, Jump, Operate, Misc, Fetch, Pal}
use Rattle.alpha_table.specs.Rows.{mem_row, branch_row}
use Rattle.alpha_table.specs.Row.{Row, IsInsn}
use Rattle.alpha_table.specs.Encoded.{digits, source, encoded}
use Rattle.alpha_table.proofs.Lookups.{opcode-operate, opcode-memory, opcode-branch, function-operate, kind-jump}
use Rattle.alpha_table.proofs.Lookups.{function-misc, function-fetch, function-pal}

digits-signed : (half full : ℕ) (d : ℤ) → half + half ≡ full → pos 0 ≤ℤ (d +ℤ pos half) → d <ℤ pos half
    → (digits full d < full)
    × (cond (ltb (digits full d) half) (pos (digits full d)) (pos (digits full d) -ℤ pos full) ≡ d)
unfolding digits
digits-signed half full (pos n) twice low high =
    let below : n < half = omega (arith, ints) in
    (omega arith, rw (lt-ltb n half below) refl)
digits-signed half full (negsuc n) twice low high =
    let below : n < half = omega (arith, ints) in
    let above : half ≤ full - 1 - n = omega arith in
    (omega arith, rw (le-ltb (full - 1 - n) half above) (omega (arith, ints)))

some_memory : (opcode ra rb f w : ℕ) → opcode < 64 → ra < 32 → rb < 32 → f < 2 ^ 16
    → w ≡ opcode * 2 ^ 26 + ra * 2 ^ 21 + rb * 2 ^ 16 + f
    → (w < 2 ^ 32) × (field 31 26 w ≡ opcode) × (field 25 21 w ≡ ra) × (field 20 16 w ≡ rb) × (field 15 0 w ≡ f)
some_memory opcode ra rb f w a b c d e = (omega arith, omega arith, omega arith, omega arith, omega arith)

some_branch : (opcode ra f w : ℕ) → opcode < 64 → ra < 32 → f < 2 ^ 21 → w ≡ opcode * 2 ^ 26 + ra * 2 ^ 21 + f
    → (w < 2 ^ 32) × (field 31 26 w ≡ opcode) × (field 25 21 w ≡ ra) × (field 20 0 w ≡ f)
some_branch opcode ra f w a b c d = (omega arith, omega arith, omega arith, omega arith)

-- the word of an instruction has 32 bits, and stands for it
pub encoded-Row : (i : Form) → IsInsn i → (encoded i < 2 ^ 32) × Row (encoded i) i
unfolding encoded source
encoded-Row (Mem op ra rb disp) h =
    let d = digits-signed (2 ^ 15) (2 ^ 16) disp refl h.2.0 h.2.1 in
    let o = opcode-memory op in
    let s = some_memory (mem_row op).opcode ra rb (digits (2 ^ 16) disp) (encoded (Mem op ra rb disp))
    (omega arith) h.0 h.1 d.0 refl in
    (s.0, (s.1, s.2, s.3, rw s.4 d.1))
encoded-Row (Branch op ra disp) h =
    let d = digits-signed (2 ^ 20) (2 ^ 21) disp refl h.1.0 h.1.1 in
    let o = opcode-branch op in
    let s = some_branch (branch_row op).opcode ra (digits (2 ^ 21) disp) (encoded (Branch op ra disp))
    (omega arith) h.0 d.0 refl in
    (s.0, (s.1, s.2, rw s.3 d.1))
encoded-Row (Jump kind ra rb hint) h =
    let k = kind-jump kind in
    (omega arith, (omega arith, omega arith, omega arith, omega arith, omega arith))
encoded-Row (Operate op ra (Reg rb) rc) h =
    let o = opcode-operate op in
    let f = function-operate op in
    (omega arith, (omega arith, omega arith, omega arith, (omega arith, omega arith, omega arith), omega arith, h.3))
encoded-Row (Operate op ra (Lit n) rc) h =
    let o = opcode-operate op in
    let f = function-operate op in
    (omega arith, (omega arith, omega arith, omega arith, (omega arith, omega arith), omega arith, h.3))
encoded-Row (Misc op) h =
    let f = function-misc op in
    (omega arith, (omega arith, omega arith, omega arith, omega arith))
encoded-Row (Fetch modify rb) h =
    let f = function-fetch modify in
    (omega arith, (omega arith, omega arith, omega arith, omega arith))
encoded-Row (Pal call) h =
    let f = function-pal call in
    (omega arith, (omega arith, omega arith))

pub Row-exists : (i : Form) → IsInsn i → (w : ℕ) × (w < 2 ^ 32) × Row w i
Row-exists i h = let e = encoded-Row i h in (encoded i, e.0, e.1)
