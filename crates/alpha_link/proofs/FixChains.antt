-- The fixes of a module's lines stand where they may, each behind those before it.
use Rattle.std.proofs.Common.{◌≡◌, ℕ, ◌+◌, ◌*◌, ◌/◌, ◌%◌, ◌<◌, ◌≤◌, true, nat_le, List, [], ◌∷◌, ◌++◌, length, map}
use Rattle.std.proofs.Common.{take, drop, replicate, Option, None, Some, refl, sym, ap, subst, ◌∙◌, append_assoc}
use Rattle.std.proofs.Common.{length-append, arith}
use Rattle.std.specs.Prelude.{IfSome, IsTrue, slice_get, ◌==◌}
use Rattle.std.specs.Option.{option_map, option_map_or, option_and_then}
use Rattle.std.specs.List.{AllByRecursion, flat_map, list_all}
use Rattle.std.proofs.lemmas.Bool.Decides.{nat_tests}
use Rattle.std.proofs.lemmas.List.{take_at, drop_at}
use Rattle.alpha_words.specs.Digits.{digits, low_bytes}
use Rattle.alpha_table.specs.declared.form.Form.{Form}
use Rattle.alpha_table.specs.Decoded.{decoded}
use Rattle.alpha_table.specs.Encoded.{encoded}
use Rattle.alpha_text.specs.Statements.{Stmt}
use Rattle.alpha_text.specs.Reading.{LineStmt}
use Rattle.alpha_table.proofs.CodeWords.{decoded_there}
use Rattle.alpha_asm.specs.declared.place.Section.TheVariants as sides
use Rattle.alpha_asm.specs.declared.statement.RelocField.{RelocField}
use Rattle.alpha_asm.specs.Statement.{Reference, InsnStmt, coded, Cell, number, address, cells, data_size, entry_in}
use Rattle.alpha_asm.specs.Layout.{Place, Placed, placed, place_after, filled_pad}
use Rattle.alpha_asm.specs.Program.{Name, name, by_insn, list_of, insn_name, insn_names, entry_names}
use Rattle.alpha_asm.specs.Patches.{Fix, fix, raw_insns, raw_cells, raw_bytes, cell_fixes, fixes_in, fixes}
use Rattle.alpha_asm.specs.Unlinked.{IsAddress, takes, IsReached, IsCell, IsUnlinked}
use Rattle.alpha_asm.proofs.NextItem.{length-raw_bytes}
use Rattle.alpha_asm.proofs.DataValues.{length-asm_low_bytes}
use Rattle.alpha_link.specs.Relocations.{Body, is_taken_at, is_quad_at, body}
use Rattle.alpha_link.proofs.SourceSizes.{insns_of, place_after-insn_count}
use Rattle.alpha_link.proofs.SourceRelocations.{IsFixChain}

-- the code has the instruction where it stands
taken_so : (code : List Form) (insn : Form) (field : RelocField) (words : ℕ)
    → map decoded (map encoded code) ≡ map Some code → slice_get code words ≡ Some insn → takes field insn ≡ true
    → is_taken_at (map encoded code) field (4 * words) ≡ true
taken_so code insn field words known there h =
    let aligned : 4 * words % 4 ≡ 0 = omega arith in
    let test : (4 * words % 4 == 0) ≡ true = rw aligned refl in
    let place : 4 * words / 4 ≡ words = omega arith in
    let here = decoded_there (map encoded code) code words insn known there in
    rw (test, place, here) h

slice_get-append_seam : {A : Type 0} (front rest : List A) (x : A)
    → slice_get (front ++ x ∷ rest) (length front) ≡ Some x
slice_get-append_seam [] rest x = refl
slice_get-append_seam (y ∷ front) rest x = slice_get-append_seam front rest x

-- fixes of the other section don't matter
skip_cells : (b : Body) (low line at : ℕ) (cs : List Cell) (fs : List Fix) → IsFixChain sides.Code b low fs
    → IsFixChain sides.Code b low (cell_fixes line at cs ++ fs)
skip_cells b low line at [] fs chain = chain
skip_cells b low line at (number bytes value ∷ cs) fs chain = skip_cells b low line (at + bytes) cs fs chain
skip_cells b low line at (address r ∷ cs) fs chain = skip_cells b low line (at + 8) cs fs chain

-- the chain behind the fix of an instruction
reach_one : (code : List Form) (bytes : List ℕ) (low line words : ℕ)
    (insn : Form) (reach : Option (RelocField × Reference)) (fs : List Fix)
    → map decoded (map encoded code) ≡ map Some code → length code ≤ 262144
    → slice_get code words ≡ Some insn → words < length code → low ≤ 4 * words
    → IfSome reach (λ r. IsTrue (takes r.0 insn) × IsAddress r.1)
    → ((l : ℕ) → l ≤ 4 * (words + 1) → IsFixChain sides.Code (body (map encoded code) bytes) l fs)
    → IsFixChain sides.Code (body (map encoded code) bytes) low
    (map (fix 0) (list_of (option_map (λ r. name line r.1 (by_insn r.0 words)) reach)) ++ fs)
reach_one code bytes low line words insn None fs known few there inside behind reached rest = rest low (omega arith)
reach_one code bytes low line words insn (Some (by, to)) fs known few there inside behind
    (taken, (label, offset)) rest =
    let stands = taken_so code insn by words known there taken in (
      record { not_before = behind; stands = stands; small = omega arith; offset = offset },
      rest (4 * words + 1) (omega arith),
    )

code_one : (code : List Form) (bytes : List ℕ) (low line words : ℕ)
    (o : Option InsnStmt) (fs : List Fix) (front rest : List Form)
    → map decoded (map encoded code) ≡ map Some code → length code ≤ 262144
    → code ≡ front ++ (option_map_or (λ c. c.insn ∷ []) o [] ++ rest) → words ≡ length front → low ≤ 4 * words
    → IfSome o IsReached
    → ((l : ℕ) → l ≤ 4 * (words + length (option_map_or (λ c. c.insn ∷ []) o []))
    → IsFixChain sides.Code (body (map encoded code) bytes) l fs)
    → IsFixChain sides.Code (body (map encoded code) bytes) low
    (map (fix 0) (list_of (option_and_then (insn_name line words) o)) ++ fs)
code_one code bytes low line words None fs front rest known few whole at behind reached more = more low (omega arith)
code_one code bytes low line words (Some c) fs front rest known few whole at behind reached more =
    let there : slice_get code words ≡ Some c.insn =
    ap (slice_get code) at ∙ (ap (λ l. slice_get l (length front)) whole ∙ slice_get-append_seam front rest c.insn) in
    let size : length code ≡ length front + length (c.insn ∷ rest) =
    ap length whole ∙ length-append front (c.insn ∷ rest) in
    reach_one code bytes low line words c.insn c.reach fs known few there (omega (arith, size, at)) behind reached more

append_assoc-behind_two : {A : Type 0} (a b c d : List A) → (a ++ (b ++ c)) ++ d ≡ a ++ (b ++ (c ++ d))
append_assoc-behind_two a b c d = append_assoc a (b ++ c) d ∙ ap (λ l. a ++ l) (append_assoc b c d)

pub no_names : (line : ℕ) (s : Stmt) → entry_in s ≡ None → entry_names line s ≡ []
no_names line s e = rw e refl

-- the fixes of a line without an entry, and those behind them
line_fixes : (at : ℕ) (x : Placed) (fs : List Fix) → entry_in x.item.statement ≡ None
    → fixes_in at x ++ fs
    ≡ map (fix 0) (insn_names x.line x.place.words x.item.statement)
    ++ (cell_fixes x.line at (cells x.item.statement) ++ fs)
line_fixes at x fs none =
    append_assoc-behind_two (map (fix 0) (insn_names x.line x.place.words x.item.statement))
    (cell_fixes x.line at (cells x.item.statement)) (map (fix 0) (entry_names x.line x.item.statement)) fs
    ∙ ap (λ (ns : List Name). map (fix 0) (insn_names x.line x.place.words x.item.statement)
    ++ (cell_fixes x.line at (cells x.item.statement) ++ (map (fix 0) ns ++ fs)))
    (no_names x.line x.item.statement none)

pub code_chain : (code : List Form) (bytes : List ℕ) (low : ℕ)
    (p : Place) (n at : ℕ) (is : List LineStmt) (front : List Form)
    → map decoded (map encoded code) ≡ map Some code → length code ≤ 262144
    → code ≡ front ++ insns_of (placed p n is) → p.words ≡ length front → low ≤ 4 * p.words
    → AllByRecursion IsUnlinked is
    → IsFixChain sides.Code (body (map encoded code) bytes) low (fixes at (placed p n is))
code_chain code bytes low p n at [] front known few whole size behind all = tt
code_chain code bytes low p n at (i ∷ is) front known few whole size below (a, all) =
    let s : Stmt = i.statement in
    let x : Placed = record { place = p; line = n; item = i } in
    let next : ℕ = at + (data_size s + filled_pad p s) in
    let rest : List Placed = placed (place_after p s) (n + 1) is in
    let words : (place_after p s).words ≡ p.words + length (raw_insns s) = place_after-insn_count p s in
    let more : (l : ℕ) → l ≤ 4 * (p.words + length (raw_insns s))
    → IsFixChain sides.Code (body (map encoded code) bytes) l (fixes next rest) = λ l h.
    code_chain code bytes l (place_after p s) (n + 1) next is (front ++ raw_insns s) known few
    (whole ∙ sym (append_assoc front (raw_insns s) (insns_of rest)))
    (words ∙ omega (arith, size, length-append front (raw_insns s))) (omega (arith, words, h)) all in
    subst (IsFixChain sides.Code (body (map encoded code) bytes) low) (sym (line_fixes at x (fixes next rest) a.entry))
    (code_one code bytes low n p.words (coded s) (cell_fixes n at (cells s) ++ fixes next rest) front
    (insns_of rest) known few whole size below a.insn
    (λ l h. skip_cells (body (map encoded code) bytes) l n at (cells s) (fixes next rest) (more l h)))

-- the other way round: fixes of instructions don't matter to the data
skip_reach : (b : Body) (low line words : ℕ) (reach : Option (RelocField × Reference)) (fs : List Fix)
    → IsFixChain sides.Data b low fs
    → IsFixChain sides.Data b low
    (map (fix 0) (list_of (option_map (λ r. name line r.1 (by_insn r.0 words)) reach)) ++ fs)
skip_reach b low line words None fs chain = chain
skip_reach b low line words (Some (by, to)) fs chain = chain

skip_insn : (b : Body) (low line words : ℕ) (o : Option InsnStmt) (fs : List Fix) → IsFixChain sides.Data b low fs
    → IsFixChain sides.Data b low (map (fix 0) (list_of (option_and_then (insn_name line words) o)) ++ fs)
skip_insn b low line words None fs chain = chain
skip_insn b low line words (Some c) fs chain = skip_reach b low line words c.reach fs chain

low_bytes-zero : list_all (λ b. b == 0) (low_bytes 8 0) ≡ true
unfolding digits
low_bytes-zero = refl

-- eight zero bytes stand where an address is to go
quad_so : (bytes front rest : List ℕ) (at : ℕ) → bytes ≡ front ++ (low_bytes 8 0 ++ rest) → at ≡ length front
    → is_quad_at bytes at ≡ true
quad_so bytes front rest at whole size =
    let eight : length (low_bytes 8 0) ≡ 8 = length-asm_low_bytes 8 0 in
    let all : length bytes ≡ length front + (length (low_bytes 8 0) + length rest) = ap length whole
    ∙ (length-append front (low_bytes 8 0 ++ rest) ∙ ap (λ n. length front + n) (length-append (low_bytes 8 0) rest)) in
    let room : at + 8 ≤ length bytes = omega (arith, all, eight, size) in
    let inside : nat_le (at + 8) (length bytes) ≡ true = grind (arith, nat_tests) in
    let here : take 8 (drop at bytes) ≡ low_bytes 8 0 =
    ap (λ l. take 8 (drop at l)) whole
    ∙ (ap (take 8) (drop_at front (low_bytes 8 0 ++ rest) at (sym size)) ∙ take_at (low_bytes 8 0) rest 8 eight) in
    rw (inside, here) low_bytes-zero

cells_chain : (words bytes : List ℕ) (low line at : ℕ) (cs : List Cell) (front rest : List ℕ) (fs : List Fix)
    → length bytes ≤ 16777216 → bytes ≡ front ++ (raw_cells cs ++ rest) → at ≡ length front → low ≤ at
    → AllByRecursion IsCell cs
    → ((l : ℕ) → l ≤ at + length (raw_cells cs) → IsFixChain sides.Data (body words bytes) l fs)
    → IsFixChain sides.Data (body words bytes) low (cell_fixes line at cs ++ fs)
cells_chain words bytes low line at [] front rest fs small whole size behind all more = more low (omega arith)
cells_chain words bytes low line at (number count value ∷ cs) front rest fs small whole size behind (a, all) more =
    let bs : List ℕ = low_bytes count value in
    let long : length bs ≡ count = length-asm_low_bytes count value in
    let split : length (bs ++ raw_cells cs) ≡ length bs + length (raw_cells cs) = length-append bs (raw_cells cs) in
    cells_chain words bytes low line (at + count) cs (front ++ bs) rest fs small
    (whole
    ∙ (ap (λ l. front ++ l) (append_assoc bs (raw_cells cs) rest) ∙ sym (append_assoc front bs (raw_cells cs ++ rest))))
    (omega (arith, size, long, length-append front bs)) (omega arith) all
    (λ l h. more l (omega (arith, h, split, long)))
cells_chain words bytes low line at (address r ∷ cs) front rest fs small whole size behind ((label, offset), all) more =
    let bs : List ℕ = low_bytes 8 0 in
    let long : length bs ≡ 8 = length-asm_low_bytes 8 0 in
    let split : length (bs ++ raw_cells cs) ≡ length bs + length (raw_cells cs) = length-append bs (raw_cells cs) in
    let here : bytes ≡ front ++ (bs ++ (raw_cells cs ++ rest)) =
    whole ∙ ap (λ l. front ++ l) (append_assoc bs (raw_cells cs) rest) in
    let total : length bytes ≡ length front + length (bs ++ (raw_cells cs ++ rest)) =
    ap length here ∙ length-append front (bs ++ (raw_cells cs ++ rest)) in (
      record {
        not_before = behind;
        stands = quad_so bytes front (raw_cells cs ++ rest) at here size;
        small = omega (arith, total, size, small);
        offset = offset;
      },
      cells_chain words bytes (at + 8) line (at + 8) cs (front ++ bs) rest fs small
          (here ∙ sym (append_assoc front bs (raw_cells cs ++ rest)))
          (omega (arith, size, long, length-append front bs)) (omega arith) all
          (λ l h. more l (omega (arith, h, split, long))),
    )

pub data_chain : (words bytes : List ℕ) (low : ℕ) (p : Place) (n at : ℕ) (is : List LineStmt) (front : List ℕ)
    → length bytes ≤ 16777216 → bytes ≡ front ++ flat_map raw_bytes (placed p n is) → at ≡ length front → low ≤ at
    → AllByRecursion IsUnlinked is
    → IsFixChain sides.Data (body words bytes) low (fixes at (placed p n is))
data_chain words bytes low p n at [] front small whole size behind all = tt
data_chain words bytes low p n at (i ∷ is) front small whole size below (a, all) =
    let s : Stmt = i.statement in
    let x : Placed = record { place = p; line = n; item = i } in
    let next : ℕ = at + (data_size s + filled_pad p s) in
    let others : List Placed = placed (place_after p s) (n + 1) is in
    let pad : List ℕ = replicate (filled_pad p s) 0 in
    let long : length (raw_bytes x) ≡ data_size s + filled_pad p s = length-raw_bytes x in
    let split : length (raw_bytes x) ≡ length (raw_cells (cells s)) + length pad =
    length-append (raw_cells (cells s)) pad in
    let more : (l : ℕ) → l ≤ at + length (raw_cells (cells s))
    → IsFixChain sides.Data (body words bytes) l (fixes next others) = λ l h.
    data_chain words bytes l (place_after p s) (n + 1) next is (front ++ raw_bytes x) small
    (whole ∙ sym (append_assoc front (raw_bytes x) (flat_map raw_bytes others)))
    (omega (arith, size, long, length-append front (raw_bytes x))) (omega (arith, h, split, long)) all in
    subst (IsFixChain sides.Data (body words bytes) low) (sym (line_fixes at x (fixes next others) a.entry))
    (skip_insn (body words bytes) low n p.words (coded s) (cell_fixes n at (cells s) ++ fixes next others)
    (cells_chain words bytes low n at (cells s) front (pad ++ flat_map raw_bytes others) (fixes next others) small
    (whole ∙ ap (λ l. front ++ l) (append_assoc (raw_cells (cells s)) pad (flat_map raw_bytes others))) size below
    a.cells more))
