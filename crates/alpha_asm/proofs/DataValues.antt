-- Values of data are added one after the other.
use Rattle.std.proofs.Common.{◌≡◌, ℕ, zero, suc, ◌+◌, ◌-◌, ◌/◌, ◌%◌, ◌<◌, ◌≤◌, List, [], ◌∷◌, ◌++◌, length, map, Option}
use Rattle.std.proofs.Common.{None, Some, refl, sym, ◌∙◌, ap, append_assoc, length-append, arith}
use Rattle.std.specs.Option.{option_and_then}
use Rattle.std.proofs.Math.Nat.{mod-eq_of_lt}
use Rattle.std.proofs.lemmas.List.{append-nil}
use Rattle.alpha_token.specs.Quoted.{first_byte}
use Rattle.alpha_operands.specs.Values.{Listed, list_shape, first_value}
use Rattle.alpha_words.specs.Digits.{digits, low_bytes}
use Rattle.alpha_asm.specs.declared.output.Output.{Output}
use Rattle.alpha_asm.specs.Data.{DataBytes}
use Rattle.alpha_asm.specs.Statement.{Cell, number, address, cell_size, cell_of, values_up_to, bytes_up_to}
use Rattle.alpha_asm.specs.Patches.{fix_of, raw_cell, raw_cells, cell_fixes, AddsCells}

pub low_bytes-step : (i count rest : ℕ) → i < count
    → low_bytes (count - i) rest ≡ rest % 256 ∷ low_bytes (count - (i + 1)) (rest / 256)
unfolding digits
low_bytes-step i count rest h = let e : count - i ≡ suc (count - (i + 1)) = omega arith in rw e refl

pub length-asm_low_bytes : (n v : ℕ) → length (low_bytes n v) ≡ n
unfolding digits
length-asm_low_bytes zero v = refl
length-asm_low_bytes (suc n) v = ap suc (length-asm_low_bytes n (v / 256))

pub length-raw_cell : (c : Cell) → length (raw_cell c) ≡ cell_size c
length-raw_cell (number bytes value) = length-asm_low_bytes bytes value
length-raw_cell (address reference) = length-asm_low_bytes 8 0

pub low_bytes-push_next : (old new all : List ℕ) (count i rest : ℕ) → i < count
    → old ++ low_bytes (count - i) rest ≡ all
    → new ≡ old ++ (rest % 256) ∷ [] → new ++ low_bytes (count - (i + 1)) (rest / 256) ≡ all
low_bytes-push_next old new all count i rest h inv e =
    rw e
    (append_assoc old (rest % 256 ∷ []) (low_bytes (count - (i + 1)) (rest / 256))
    ∙ (ap (λ x. old ++ x) (sym (low_bytes-step i count rest h)) ∙ inv))

pub low_bytes-push_end : (old all : List ℕ) (count i rest : ℕ) → count ≤ i → old ++ low_bytes (count - i) rest ≡ all
    → old ≡ all
unfolding digits
low_bytes-push_end old all count i rest h inv =
    let z : count - i ≡ 0 = omega arith in
    sym (append-nil old) ∙ (rw z at inv)

cell_fixes-cons : (line at : ℕ) (c : Cell) (cs : List Cell)
    → cell_fixes line at (c ∷ cs) ≡ cell_fixes line at (c ∷ []) ++ cell_fixes line (at + cell_size c) cs
cell_fixes-cons line at (number bytes value) cs = refl
cell_fixes-cons line at (address reference) cs = refl

-- one value, and others behind it
pub AddsCells-cons : (line : ℕ) (c : Cell) (cs : List Cell) (old middle new : Output)
    → AddsCells line (c ∷ []) old middle
    → AddsCells line cs middle new → AddsCells line (c ∷ cs) old new
AddsCells-cons line c cs old middle new a b =
    let size : length middle.bytes.items ≡ length old.bytes.items + cell_size c =
    omega (
      arith,
      ap length a.bytes,
      length-append old.bytes.items (raw_cells (c ∷ [])),
      length-append (raw_cell c) [],
      length-raw_cell c,
    ) in
    record {
      code = b.code ∙ a.code;
      bytes = b.bytes ∙ (ap (λ x. x ++ raw_cells cs) a.bytes ∙ simp append_assoc);
      patches = b.patches ∙ (ap (λ n. map fix_of middle.patches.items ++ cell_fixes line n cs) size
          ∙ (ap (λ x. x ++ cell_fixes line (length old.bytes.items + cell_size c) cs) a.patches
          ∙ (append_assoc (map fix_of old.patches.items) (cell_fixes line (length old.bytes.items) (c ∷ []))
          (cell_fixes line (length old.bytes.items + cell_size c) cs)
          ∙ ap (λ x. map fix_of old.patches.items ++ x) (sym (cell_fixes-cons line (length old.bytes.items) c cs)))));
    }

pub AddsCells-nil : (line : ℕ) (o : Output) → AddsCells line [] o o
AddsCells-nil line o = record {
  code = refl;
  bytes = sym (append-nil o.bytes.items);
  patches = sym (append-nil (map fix_of o.patches.items));
}

-- a byte of a string
pub AddsCells-string_byte : (line b : ℕ) (old : Output) (bytes : DataBytes) → b < 256
    → bytes.items ≡ old.bytes.items ++ b ∷ []
    → AddsCells line (number 1 b ∷ []) old (record old { bytes = bytes })
unfolding digits
AddsCells-string_byte line b old bytes h e = record {
  code = refl;
  bytes = e ∙ ap (λ d. old.bytes.items ++ d ∷ []) (sym (mod-eq_of_lt h));
  patches = sym (append-nil (map fix_of old.patches.items));
}

-- A list of values: what is still to be added makes up for all.
abbrev pub next_value : ℕ → List ℕ → Option (Listed × List ℕ)
next_value bytes list = option_and_then (λ shape. first_value shape list) (list_shape bytes)

pub AddsCells-next_value : (line b n i : ℕ) (rest more : List ℕ) (v : Listed) (middle next : Output)
    (P : Output → Type 0)
    → i < n → Some (v, more) ≡ next_value b rest → AddsCells line (cell_of b v ∷ []) middle next
    → ((new : Output) → AddsCells line (map (cell_of b) (values_up_to (n - i) b rest)) middle new → P new)
    → (new : Output) → AddsCells line (map (cell_of b) (values_up_to (n - (i + 1)) b more)) next new → P new
AddsCells-next_value line b n i rest more v middle next P h e a inv new later =
    let s : n - i ≡ suc (n - (i + 1)) = omega arith in
    let m : values_up_to (n - i) b rest ≡ v ∷ values_up_to (n - (i + 1)) b more = rw s (rw (← e) refl) in
    inv new (rw m (AddsCells-cons line (cell_of b v) _ middle next new a later))

no_values : (n b : ℕ) (rest : List ℕ) → None ≡ next_value b rest → values_up_to n b rest ≡ []
no_values zero b rest e = refl
no_values (suc n) b rest e = rw (← e) refl

pub AddsCells-last_value : (line b n i : ℕ) (rest : List ℕ) (middle : Output) (P : Output → Type 0)
    → None ≡ next_value b rest
    → ((new : Output) → AddsCells line (map (cell_of b) (values_up_to (n - i) b rest)) middle new → P new) → P middle
AddsCells-last_value line b n i rest middle P e inv =
    inv middle (rw (no_values (n - i) b rest e) (AddsCells-nil line middle))

pub AddsCells-all_values : (line b n i : ℕ) (rest : List ℕ) (middle : Output) (P : Output → Type 0) → n ≤ i
    → ((new : Output) → AddsCells line (map (cell_of b) (values_up_to (n - i) b rest)) middle new → P new) → P middle
AddsCells-all_values line b n i rest middle P h inv =
    let z : n - i ≡ 0 = omega arith in
    inv middle (rw z (AddsCells-nil line middle))

-- the same of the bytes of a text
pub AddsCells-next_byte : (line n i : ℕ) (rest more : List ℕ) (byte : ℕ) (middle next : Output) (P : Output → Type 0)
    → i < n
    → Some (byte, more) ≡ first_byte rest → AddsCells line (number 1 byte ∷ []) middle next
    → ((new : Output) → AddsCells line (map (number 1) (bytes_up_to (n - i) rest)) middle new → P new)
    → (new : Output) → AddsCells line (map (number 1) (bytes_up_to (n - (i + 1)) more)) next new → P new
AddsCells-next_byte line n i rest more byte middle next P h e a inv new later =
    let s : n - i ≡ suc (n - (i + 1)) = omega arith in
    let m : bytes_up_to (n - i) rest ≡ byte ∷ bytes_up_to (n - (i + 1)) more = rw s (rw (← e) refl) in
    inv new (rw m (AddsCells-cons line (number 1 byte) _ middle next new a later))

no_bytes : (n : ℕ) (rest : List ℕ) → None ≡ first_byte rest → bytes_up_to n rest ≡ []
no_bytes zero rest e = refl
no_bytes (suc n) rest e = rw (← e) refl

pub AddsCells-last_byte : (line n i : ℕ) (rest : List ℕ) (middle : Output) (P : Output → Type 0)
    → None ≡ first_byte rest
    → ((new : Output) → AddsCells line (map (number 1) (bytes_up_to (n - i) rest)) middle new → P new) → P middle
AddsCells-last_byte line n i rest middle P e inv = inv middle (rw (no_bytes (n - i) rest e) (AddsCells-nil line middle))

pub AddsCells-all_bytes : (line n i : ℕ) (rest : List ℕ) (middle : Output) (P : Output → Type 0) → n ≤ i
    → ((new : Output) → AddsCells line (map (number 1) (bytes_up_to (n - i) rest)) middle new → P new) → P middle
AddsCells-all_bytes line n i rest middle P h inv =
    let z : n - i ≡ 0 = omega arith in
    inv middle (rw z (AddsCells-nil line middle))
