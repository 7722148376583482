-- With all addresses put in, code and data bytes are those of the items.
use Rattle.std.proofs.Common.{◌≡◌, ℕ, ◌+◌, ◌*◌, List, [], ◌∷◌, ◌++◌, length, map, drop, replicate, sum_by, true, cond}
use Rattle.std.proofs.Common.{nat_le, Option, None, Some, is_some, refl, sym, ◌∙◌, ap, append_assoc, length-append}
use Rattle.std.proofs.Common.{arith}
use Rattle.std.specs.Prelude.{slice_get}
use Rattle.std.specs.Option.{option_map_or, option_and_then, unwrap_or}
use Rattle.std.specs.List.{flat_map}
use Rattle.std.proofs.Math.Seq.{set-append_seam, take-append_seam, drop-append_seam, drop-append-add}
use Rattle.std.proofs.lemmas.Bool.Decides.{nat_tests}
use Rattle.std.proofs.lemmas.List.{length-replicate}
use Rattle.std.proofs.lemmas.List.Sums.{sum_by-cons}
use Rattle.alpha_words.specs.Digits.{low_bytes}
use Rattle.alpha_table.specs.declared.form.Form.{Form}
use Rattle.alpha_text.specs.Statements.{Stmt}
use Rattle.alpha_text.specs.Reading.{LineStmt}
use Rattle.alpha_asm.specs.declared.patch.Displacement.{Displacement}
use Rattle.alpha_asm.specs.Statement.{Reference, InsnStmt, coded, Cell, number, address, cell_size, cells, data_size}
use Rattle.alpha_asm.specs.Statement.{Entry, entry_at, entry_of, entry_in}
use Rattle.alpha_asm.specs.Layout.{Place, Placed, placed, place_after, filled_pad}
use Rattle.alpha_asm.specs.Program.{Known, list_of, insn_name, insn_names, entry_name, entry_names, address_of, reached}
use Rattle.alpha_asm.specs.Program.{displaced, quadword_of, insn_in, code_in, cell_bytes, bytes_in}
use Rattle.alpha_asm.specs.Patches.{Fix, fix, raw_insns, raw_cells, raw_bytes, cell_fixes, fixes_in, fixes, code_at}
use Rattle.alpha_asm.specs.Patches.{code_with, overlaid, bytes_with, code_after, bytes_after}
use Rattle.alpha_asm.proofs.DataValues.{length-asm_low_bytes}

pub slice_get-seam : {A : Type 0} (xs ys : List A) (y : A) → slice_get (xs ++ y ∷ ys) (length xs) ≡ Some y
slice_get-seam [] ys y = refl
slice_get-seam (x ∷ xs) ys y = slice_get-seam xs ys y

code_after-append : (k : Known) (fs gs : List Fix) (code : List Form)
    → code_after k (fs ++ gs) code ≡ code_after k gs (code_after k fs code)
code_after-append k [] gs code = refl
code_after-append k (f ∷ fs) gs code =
    code_after-append k fs gs (code_with k (address_of k f.name.reference) f.name.target code)

bytes_after-append : (k : Known) (fs gs : List Fix) (bytes : List ℕ)
    → bytes_after k (fs ++ gs) bytes ≡ bytes_after k gs (bytes_after k fs bytes)
bytes_after-append k [] gs bytes = refl
bytes_after-append k (f ∷ fs) gs bytes =
    bytes_after-append k fs gs (bytes_with k f.at (address_of k f.name.reference) f.name.target bytes)

-- values of data and entries leave the code as it is
code_after-cells : (k : Known) (line at : ℕ) (cs : List Cell) (code : List Form)
    → code_after k (cell_fixes line at cs) code ≡ code
code_after-cells k line at [] code = refl
code_after-cells k line at (number bytes value ∷ cs) code = code_after-cells k line (at + bytes) cs code
code_after-cells k line at (address reference ∷ cs) code = code_after-cells k line (at + 8) cs code

code_after-entry : (k : Known) (line : ℕ) (e : Option Entry) (code : List Form)
    → code_after k (map (fix 0) (list_of (option_and_then (entry_name line) e))) code ≡ code
code_after-entry k line None code = refl
code_after-entry k line (Some (entry_at n)) code = refl
code_after-entry k line (Some (entry_of r)) code = refl

-- instructions and entries leave the data bytes as they are
bytes_after-insn : (k : Known) (line words : ℕ) (co : Option InsnStmt) (bytes : List ℕ)
    → bytes_after k (map (fix 0) (list_of (option_and_then (insn_name line words) co))) bytes ≡ bytes
bytes_after-insn k line words None bytes = refl
bytes_after-insn k line words (Some c) bytes =
    elim c.reach as (λ r. bytes_after k
    (map (fix 0) (list_of (option_and_then (insn_name line words) (Some (record { insn = c.insn; reach = r }))))) bytes
    ≡ bytes)
    [ None ↦ refl | Some r ↦ refl ]

bytes_after-entry : (k : Known) (line : ℕ) (e : Option Entry) (bytes : List ℕ)
    → bytes_after k (map (fix 0) (list_of (option_and_then (entry_name line) e))) bytes ≡ bytes
bytes_after-entry k line None bytes = refl
bytes_after-entry k line (Some (entry_at n)) bytes = refl
bytes_after-entry k line (Some (entry_of r)) bytes = refl

-- an instruction reaches its address in its place
code_at-append : (d : Option Displacement) (insn : Form) (front rest : List Form)
    → code_at d (length front) (front ++ insn ∷ rest) ≡ front ++ option_map_or (displaced insn) d insn ∷ rest
code_at-append None insn front rest = refl
code_at-append (Some d) insn front rest =
    rw (slice_get-seam front rest insn) (set-append_seam front insn rest (displaced insn d))

insn_whole : (k : Known) (line : ℕ) (p : Place) (co : Option InsnStmt) (front rest : List Form) → length front ≡ p.words
    → code_after k (map (fix 0) (list_of (option_and_then (insn_name line p.words) co)))
    (front ++ (option_map_or (λ c. c.insn ∷ []) co [] ++ rest))
    ≡ front ++ (option_map_or (λ c. insn_in k p c ∷ []) co [] ++ rest)
insn_whole k line p None front rest h = refl
insn_whole k line p (Some c) front rest h =
    elim c.reach as (λ r. code_after k
    (map (fix 0) (list_of (option_and_then (insn_name line p.words) (Some (record { insn = c.insn; reach = r })))))
    (front ++ c.insn ∷ rest) ≡ front ++ insn_in k p (record { insn = c.insn; reach = r }) ∷ rest) [
      | None ↦ refl
      | Some r ↦
          ap (λ n. code_at (reached r.0 (k.code_base + 4 * p.words) (address_of k r.1)) n (front ++ c.insn ∷ rest))
          (sym h)
          ∙ code_at-append (reached r.0 (k.code_base + 4 * p.words) (address_of k r.1)) c.insn front rest
    ]

pub length-code_in : (k : Known) (p : Place) (co : Option InsnStmt)
    → length (option_map_or (λ c. insn_in k p c ∷ []) co []) ≡ cond (is_some co) 1 0
length-code_in k p None = refl
length-code_in k p (Some c) = refl

-- a front that has its addresses, and the items behind it
pub code_after-code_in : (k : Known) (at : ℕ) (p : Place) (line : ℕ) (is : List LineStmt) (front : List Form)
    → length front ≡ p.words
    → code_after k (fixes at (placed p line is))
    (front ++ flat_map (λ x. raw_insns x.item.statement) (placed p line is))
    ≡ front ++ flat_map (code_in k) (placed p line is)
code_after-code_in k at p line [] front h = refl
code_after-code_in k at p line (i ∷ is) front h =
    let s : Stmt = i.statement in
    let x : Placed = record { place = p; line = line; item = i } in
    let xs : List Placed = placed (place_after p s) (line + 1) is in
    let later : List Fix = fixes (at + (data_size s + filled_pad p s)) xs in
    let rest : List Form = flat_map (λ x. raw_insns x.item.statement) xs in
    let names : List Fix = map (fix 0) (insn_names line p.words s) in
    let others : List Fix = cell_fixes line at (cells s) ++ map (fix 0) (entry_names line s) in
    let whole : List Form = front ++ code_in k x in
    let size : length whole ≡ (place_after p s).words = length-append front (code_in k x)
    ∙ (ap (λ n. n + length (code_in k x)) h ∙ ap (λ n. p.words + n) (length-code_in k p (coded s))) in
    code_after-append k (fixes_in at x) later (front ++ (raw_insns s ++ rest))
    ∙ (ap (code_after k later)
    (code_after-append k names others (front ++ (raw_insns s ++ rest))
    ∙ (ap (code_after k others) (insn_whole k line p (coded s) front rest h)
    ∙ (code_after-append k (cell_fixes line at (cells s)) (map (fix 0) (entry_names line s))
    (front ++ (code_in k x ++ rest))
    ∙ (ap (code_after k (map (fix 0) (entry_names line s)))
    (code_after-cells k line at (cells s) (front ++ (code_in k x ++ rest)))
    ∙ code_after-entry k line (entry_in s) (front ++ (code_in k x ++ rest))))))
    ∙ (ap (code_after k later) (sym (append_assoc front (code_in k x) rest))
    ∙ (code_after-code_in k (at + (data_size s + filled_pad p s)) (place_after p s) (line + 1) is whole size
    ∙ append_assoc front (code_in k x) (flat_map (code_in k) xs))))

-- a quadword takes the place of eight bytes
overlaid-append : (n : ℕ) (front rest : List ℕ)
    → overlaid (length front) n (front ++ (low_bytes 8 0 ++ rest)) ≡ front ++ (low_bytes 8 n ++ rest)
overlaid-append n front rest =
    let size : length (front ++ (low_bytes 8 0 ++ rest)) ≡ length front + (8 + length rest) =
    length-append front (low_bytes 8 0 ++ rest) ∙ ap (λ m. length front + m)
    (length-append (low_bytes 8 0) rest ∙ ap (λ m. m + length rest) (length-asm_low_bytes 8 0)) in
    let room : nat_le (length front + 8) (length (front ++ (low_bytes 8 0 ++ rest))) ≡ true =
    grind (arith, nat_tests) in
    let eight : length (low_bytes 8 0) ≡ 8 = length-asm_low_bytes 8 0 in
    let behind : drop 8 (low_bytes 8 0 ++ rest) ≡ rest =
    ap (λ m. drop m (low_bytes 8 0 ++ rest)) (sym eight) ∙ drop-append_seam (low_bytes 8 0) rest in
    rw (room, take-append_seam front (low_bytes 8 0 ++ rest), drop-append-add front (low_bytes 8 0 ++ rest) 8, behind)
    refl

quad_whole : (k : Known) (r : Reference) (q : Option ℕ) (at : ℕ) (front rest : List ℕ) → length front ≡ at
    → option_map_or (λ n. overlaid at n (front ++ (low_bytes 8 0 ++ rest))) q (front ++ (low_bytes 8 0 ++ rest))
    ≡ front ++ (low_bytes 8 (unwrap_or q 0) ++ rest)
quad_whole k r None at front rest h = refl
quad_whole k r (Some n) at front rest h =
    ap (λ m. overlaid m n (front ++ (low_bytes 8 0 ++ rest))) (sym h) ∙ overlaid-append n front rest

append_assoc-inner : (front b c rest : List ℕ) → front ++ ((b ++ c) ++ rest) ≡ (front ++ b) ++ (c ++ rest)
append_assoc-inner front b c rest = simp append_assoc

cells_whole : (k : Known) (line at : ℕ) (cs : List Cell) (front rest : List ℕ) → length front ≡ at
    → bytes_after k (cell_fixes line at cs) (front ++ (raw_cells cs ++ rest))
    ≡ front ++ (flat_map (cell_bytes k) cs ++ rest)
cells_whole k line at [] front rest h = refl
cells_whole k line at (number bytes value ∷ cs) front rest h =
    let b : List ℕ = low_bytes bytes value in
    let size : length (front ++ b) ≡ at + bytes =
    length-append front b ∙ (ap (λ n. n + length b) h ∙ ap (λ n. at + n) (length-asm_low_bytes bytes value)) in
    ap (bytes_after k (cell_fixes line (at + bytes) cs)) (append_assoc-inner front b (raw_cells cs) rest)
    ∙ (cells_whole k line (at + bytes) cs (front ++ b) rest size
    ∙ sym (append_assoc-inner front b (flat_map (cell_bytes k) cs) rest))
cells_whole k line at (address r ∷ cs) front rest h =
    let q : Option ℕ = quadword_of (address_of k r) in
    let b : List ℕ = low_bytes 8 (unwrap_or q 0) in
    let size : length (front ++ b) ≡ at + 8 =
    length-append front b ∙ (ap (λ n. n + length b) h ∙ ap (λ n. at + n) (length-asm_low_bytes 8 (unwrap_or q 0))) in
    ap (bytes_after k (cell_fixes line (at + 8) cs))
    (ap (λ y. option_map_or (λ n. overlaid at n (front ++ y)) q (front ++ y))
    (append_assoc (low_bytes 8 0) (raw_cells cs) rest)
    ∙ (quad_whole k r q at front (raw_cells cs ++ rest) h ∙ sym (append_assoc front b (raw_cells cs ++ rest))))
    ∙ (cells_whole k line (at + 8) cs (front ++ b) rest size
    ∙ sym (append_assoc-inner front b (flat_map (cell_bytes k) cs) rest))

length-cell_bytes : (k : Known) (c : Cell) → length (cell_bytes k c) ≡ cell_size c
length-cell_bytes k (number bytes value) = length-asm_low_bytes bytes value
length-cell_bytes k (address r) = length-asm_low_bytes 8 (unwrap_or (quadword_of (address_of k r)) 0)

pub length-cells : (k : Known) (cs : List Cell) → length (flat_map (cell_bytes k) cs) ≡ sum_by cell_size cs
length-cells k [] = refl
length-cells k (c ∷ cs) =
    length-append (cell_bytes k c) (flat_map (cell_bytes k) cs)
    ∙ (ap (λ n. n + length (flat_map (cell_bytes k) cs)) (length-cell_bytes k c)
    ∙ (ap (λ n. cell_size c + n) (length-cells k cs) ∙ sym (sum_by-cons cell_size c cs)))

pub bytes_whole : (k : Known) (at : ℕ) (p : Place) (line : ℕ) (is : List LineStmt) (front : List ℕ) → length front ≡ at
    → bytes_after k (fixes at (placed p line is)) (front ++ flat_map raw_bytes (placed p line is))
    ≡ front ++ flat_map (bytes_in k) (placed p line is)
bytes_whole k at p line [] front h = refl
bytes_whole k at p line (i ∷ is) front h =
    let s : Stmt = i.statement in
    let x : Placed = record { place = p; line = line; item = i } in
    let xs : List Placed = placed (place_after p s) (line + 1) is in
    let next : ℕ = at + (data_size s + filled_pad p s) in
    let later : List Fix = fixes next xs in
    let zeros : List ℕ = replicate (filled_pad p s) 0 in
    let rest : List ℕ = flat_map raw_bytes xs in
    let whole : List ℕ = front ++ bytes_in k x in
    let made : List ℕ = flat_map (cell_bytes k) (cells s) in
    let size : length whole ≡ next =
    length-append front (bytes_in k x) ∙ (ap (λ n. n + length (bytes_in k x)) h
    ∙ ap (λ n. at + n) (length-append made zeros ∙ (ap (λ n. n + length zeros) (length-cells k (cells s))
    ∙ ap (λ n. data_size s + n) (length-replicate {A = ℕ} (filled_pad p s) 0)))) in
    bytes_after-append k (fixes_in at x) later (front ++ (raw_bytes x ++ rest))
    ∙ (ap (bytes_after k later)
    (bytes_after-append k (map (fix 0) (insn_names line p.words s))
    (cell_fixes line at (cells s) ++ map (fix 0) (entry_names line s)) (front ++ (raw_bytes x ++ rest))
    ∙ (ap (bytes_after k (cell_fixes line at (cells s) ++ map (fix 0) (entry_names line s)))
    (bytes_after-insn k line p.words (coded s) (front ++ (raw_bytes x ++ rest)))
    ∙ (bytes_after-append k (cell_fixes line at (cells s)) (map (fix 0) (entry_names line s))
    (front ++ (raw_bytes x ++ rest))
    ∙ (ap (bytes_after k (map (fix 0) (entry_names line s)))
    (ap (λ y. bytes_after k (cell_fixes line at (cells s)) (front ++ y)) (append_assoc (raw_cells (cells s)) zeros rest)
    ∙ (cells_whole k line at (cells s) front (zeros ++ rest) h
    ∙ ap (λ y. front ++ y) (sym (append_assoc made zeros rest))))
    ∙ bytes_after-entry k line (entry_in s) (front ++ (bytes_in k x ++ rest))))))
    ∙ (ap (bytes_after k later) (sym (append_assoc front (bytes_in k x) rest))
    ∙ (bytes_whole k next (place_after p s) (line + 1) is whole size
    ∙ append_assoc front (bytes_in k x) (flat_map (bytes_in k) xs))))
