-- Whether an address among the values of a list is off its label, a value after the other.
use Rattle.std.proofs.Common.{◌≡◌, ℕ, zero, suc, ◌+◌, ◌-◌, ◌<◌, ◌≤◌, ◌||◌, Bool, true, false, List, [], ◌∷◌, ◌++◌}
use Rattle.std.proofs.Common.{length, map, Option, None, Some, refl, sym, ◌∙◌, ap, arith}
use Rattle.std.specs.Option.{option_and_then}
use Rattle.std.specs.List.{list_any, filter_map, cons_option}
use Rattle.alpha_operands.specs.Values.{Listed, list_shape, first_value}
use Rattle.alpha_text.specs.Statements.{text}
use Rattle.alpha_asm.specs.Statement.{Reference, Cell, number, cell_of, cells, values_up_to, bytes_up_to}
use Rattle.alpha_fix.specs.FixedLines.{cell_reference, references}

-- of the references of cells
abbrev pub any_of : (Reference → Bool) → List Cell → Bool
any_of off cs = list_any off (filter_map cell_reference cs)

abbrev next_value : ℕ → List ℕ → Option (Listed × List ℕ)
next_value bytes list = option_and_then (λ shape. first_value shape list) (list_shape bytes)

next_values : (b n i : ℕ) (rest more : List ℕ) (v : Listed) → i < n → Some (v, more) ≡ next_value b rest
    → values_up_to (n - i) b rest ≡ v ∷ values_up_to (n - (i + 1)) b more
next_values b n i rest more v h e = let s : n - i ≡ suc (n - (i + 1)) = omega arith in rw s (rw (← e) refl)

no_values : (n b : ℕ) (rest : List ℕ) → None ≡ next_value b rest → values_up_to n b rest ≡ []
no_values zero b rest e = refl
no_values (suc n) b rest e = rw (← e) refl

-- one that is off
first_off : (off : Reference → Bool) (o : Option Reference) (rs : List Reference)
    → true ≡ list_any off (cons_option o []) → list_any off (cons_option o rs) ≡ true
first_off off None rs h = cc
first_off off (Some r) rs h = by (off r) refl h
  where
    by : (b : Bool) → off r ≡ b → true ≡ (b || false) → (off r || list_any off rs) ≡ true
    by true e k = ap (λ x. x || list_any off rs) e
    by false e k = cc

-- one that isn't
first_on : (off : Reference → Bool) (o : Option Reference) (rs : List Reference)
    → false ≡ list_any off (cons_option o []) → list_any off (cons_option o rs) ≡ list_any off rs
first_on off None rs h = refl
first_on off (Some r) rs h = by (off r) refl h
  where
    by : (b : Bool) → off r ≡ b → false ≡ (b || false) → (off r || list_any off rs) ≡ list_any off rs
    by true e k = cc
    by false e k = ap (λ x. x || list_any off rs) e

pub any_of-off_value : (off : Reference → Bool) (b n i : ℕ) (rest more : List ℕ) (v : Listed) (whole : Bool) → i < n
    → Some (v, more) ≡ next_value b rest
    → true ≡ any_of off (cell_of b v ∷ []) → any_of off (map (cell_of b) (values_up_to (n - i) b rest)) ≡ whole
    → true ≡ whole
any_of-off_value off b n i rest more v whole h e t inv =
    sym (first_off off (cell_reference (cell_of b v))
    (filter_map cell_reference (map (cell_of b) (values_up_to (n - (i + 1)) b more))) t)
    ∙ (ap (λ vs. any_of off (map (cell_of b) vs)) (sym (next_values b n i rest more v h e)) ∙ inv)

pub any_of-other_value : (off : Reference → Bool) (b n i : ℕ) (rest more : List ℕ) (v : Listed) (whole : Bool) → i < n
    → Some (v, more) ≡ next_value b rest
    → false ≡ any_of off (cell_of b v ∷ []) → any_of off (map (cell_of b) (values_up_to (n - i) b rest)) ≡ whole
    → any_of off (map (cell_of b) (values_up_to (n - (i + 1)) b more)) ≡ whole
any_of-other_value off b n i rest more v whole h e t inv =
    sym (first_on off (cell_reference (cell_of b v))
    (filter_map cell_reference (map (cell_of b) (values_up_to (n - (i + 1)) b more))) t)
    ∙ (ap (λ vs. any_of off (map (cell_of b) vs)) (sym (next_values b n i rest more v h e)) ∙ inv)

pub any_of-no_value : (off : Reference → Bool) (b n i : ℕ) (rest : List ℕ) (whole : Bool) → None ≡ next_value b rest
    → any_of off (map (cell_of b) (values_up_to (n - i) b rest)) ≡ whole → false ≡ whole
any_of-no_value off b n i rest whole e inv =
    ap (λ vs. any_of off (map (cell_of b) vs)) (sym (no_values (n - i) b rest e)) ∙ inv

pub any_of-no_value_left : (off : Reference → Bool) (b n i : ℕ) (rest : List ℕ) (whole : Bool) → n ≤ i
    → any_of off (map (cell_of b) (values_up_to (n - i) b rest)) ≡ whole → false ≡ whole
any_of-no_value_left off b n i rest whole h inv =
    let z : 0 ≡ n - i = omega arith in
    ap (λ (m : ℕ). any_of off (map (cell_of b) (values_up_to m b rest))) z ∙ inv

-- the bytes of a text name no address
no_references : (bs : List ℕ) → filter_map cell_reference (map (number 1) bs) ≡ []
no_references [] = refl
no_references (b ∷ bs) = no_references bs

pub none_in_text : (off : Reference → Bool) (t : List ℕ) → false ≡ list_any off (references (text t))
unfolding cells
none_in_text off t = ap (λ rs. list_any off (rs ++ [])) (sym (no_references (bytes_up_to (length t) t)))
