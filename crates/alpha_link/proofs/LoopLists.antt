-- Lists that a loop goes along.
use Rattle.std.proofs.Common.{◌≡◌, ℕ, ◌+◌, ◌<◌, ◌≤◌, List, [], ◌∷◌, length, drop, get_or, Bool, true, false, cond, take}
use Rattle.std.proofs.Common.{◌++◌, Option, None, Some, sym, ap, ◌∙◌, add-one, drop-cons}
use Rattle.std.specs.Prelude.{◌&&◌, position, slice_get}
use Rattle.std.specs.List.{position_from, list_all}
use Rattle.std.specs.Option.{option_or}
use Rattle.alpha_asm.specs.Layout.{first}
use Rattle.std.proofs.lemmas.List.{take_more}
use Rattle.std.proofs.lemmas.Option.{slice_get_within, get_or_from_slice_get}
use Rattle.std.proofs.Math.ListN.{drop_of_length-le}
use Rattle.std.proofs.lemmas.Iterator.Adapters.{position_from-zero}

-- the rest of a list from an element on
pub drop-get_or : {A : Type 0} (xs : List A) (i : ℕ) (d : A) → i < length xs
    → drop i xs ≡ get_or xs i d ∷ drop (i + 1) xs
drop-get_or xs i d h = rw add-one (drop-cons xs i d h)

pub drop-past_end : {A : Type 0} (xs : List A) (i : ℕ) → length xs ≤ i → drop i xs ≡ []
drop-past_end xs i h = drop_of_length-le xs h

pub position_begins : {A : Type 0} (p : A → Bool) (xs : List A) → position_from p 0 xs ≡ position p xs
position_begins p xs = sym (position_from-zero p xs)

-- the first of what a function makes of elements: the loop goes on, stops at an element, or ends
pub first-drop_none : {A B : Type 0} (f : A → Option B) (xs : List A) (i : ℕ) (x : A) (whole : Option B) → i < length xs
    → x ≡ get_or xs i x → f x ≡ None → first f (drop i xs) ≡ whole → first f (drop (i + 1) xs) ≡ whole
first-drop_none f xs i x whole h here none e =
    ap (λ (o : Option _). option_or o (first f (drop (i + 1) xs))) (sym none)
    ∙ (ap (λ (y : _). first f (y ∷ drop (i + 1) xs)) here ∙ (ap (first f) (sym (drop-get_or xs i x h)) ∙ e))

pub first-drop_some : {A B : Type 0} (f : A → Option B) (xs : List A) (i : ℕ) (x : A) (y : B) (whole : Option B)
    → i < length xs → x ≡ get_or xs i x → f x ≡ Some y → first f (drop i xs) ≡ whole → whole ≡ Some y
first-drop_some f xs i x y whole h here some e =
    sym e ∙ (ap (first f) (drop-get_or xs i x h) ∙ (ap (λ (z : _). first f (z ∷ drop (i + 1) xs)) (sym here)
    ∙ ap (λ (o : Option _). option_or o (first f (drop (i + 1) xs))) some))

pub first-drop_end : {A B : Type 0} (f : A → Option B) (xs : List A) (i : ℕ) (whole : Option B) → length xs ≤ i
    → first f (drop i xs) ≡ whole → whole ≡ None
first-drop_end f xs i whole past e = sym e ∙ ap (first f) (drop-past_end xs i past)

-- the element with a number, and those behind it
pub drop-slice_get : {A : Type 0} (xs : List A) (i : ℕ) (x : A) → slice_get xs i ≡ Some x
    → drop i xs ≡ x ∷ drop (i + 1) xs
drop-slice_get xs i x e =
    drop-get_or xs i x (slice_get_within xs i x e)
    ∙ ap (λ (y : _). y ∷ drop (i + 1) xs) (get_or_from_slice_get xs i x x e)

pub take-snoc_next : {A : Type 0} (xs : List A) (i : ℕ) (x : A) → slice_get xs i ≡ Some x
    → take (i + 1) xs ≡ take i xs ++ x ∷ []
take-snoc_next xs i x e =
    take_more xs i x (slice_get_within xs i x e)
    ∙ ap (λ (y : _). take i xs ++ y ∷ []) (get_or_from_slice_get xs i x x e)

-- the first element that passes a test, as a loop goes along their numbers
pub position_stops : {A : Type 0} (p : A → Bool) (xs : List A) (i : ℕ) (x : A) (whole : Option ℕ)
    → slice_get xs i ≡ Some x → p x ≡ true → position_from p i (drop i xs) ≡ whole → Some i ≡ whole
position_stops p xs i x whole here passes e =
    sym (ap (λ (b : Bool). cond b (Some i) (position_from p (i + 1) (drop (i + 1) xs))) passes)
    ∙ (ap (position_from p i) (sym (drop-slice_get xs i x here)) ∙ e)

pub position_goes : {A : Type 0} (p : A → Bool) (xs : List A) (i : ℕ) (x : A) (whole : Option ℕ)
    → slice_get xs i ≡ Some x → p x ≡ false → position_from p i (drop i xs) ≡ whole
    → position_from p (i + 1) (drop (i + 1) xs) ≡ whole
position_goes p xs i x whole here fails e =
    sym (ap (λ (b : Bool). cond b (Some i) (position_from p (i + 1) (drop (i + 1) xs))) fails)
    ∙ (ap (position_from p i) (sym (drop-slice_get xs i x here)) ∙ e)

pub position_ends : {A : Type 0} (p : A → Bool) (xs : List A) (i : ℕ) (whole : Option ℕ) → length xs ≤ i
    → position_from p i (drop i xs) ≡ whole → None ≡ whole
position_ends p xs i whole past e = sym (ap (position_from p i) (drop-past_end xs i past)) ∙ e

-- whether all elements pass a test, as a loop goes along their numbers
whole_at : {A : Type 0} (p : A → Bool) (xs : List A) (i : ℕ) (x : A) (whole : Bool) → slice_get xs i ≡ Some x
    → list_all p (drop i xs) ≡ whole → (p x && list_all p (drop (i + 1) xs)) ≡ whole
whole_at p xs i x whole here e = ap (list_all p) (sym (drop-slice_get xs i x here)) ∙ e

pub list_all-drop_false : {A : Type 0} (p : A → Bool) (xs : List A) (i : ℕ) (x : A) (whole : Bool)
    → slice_get xs i ≡ Some x
    → p x ≡ false → list_all p (drop i xs) ≡ whole → false ≡ whole
list_all-drop_false p xs i x whole here fails e =
    sym (ap (λ (b : Bool). b && list_all p (drop (i + 1) xs)) fails) ∙ whole_at p xs i x whole here e

pub list_all-drop_next : {A : Type 0} (p : A → Bool) (xs : List A) (i : ℕ) (x : A) (whole : Bool)
    → slice_get xs i ≡ Some x
    → p x ≡ true → list_all p (drop i xs) ≡ whole → list_all p (drop (i + 1) xs) ≡ whole
list_all-drop_next p xs i x whole here passes e =
    sym (ap (λ (b : Bool). b && list_all p (drop (i + 1) xs)) passes) ∙ whole_at p xs i x whole here e

pub list_all-drop_end : {A : Type 0} (p : A → Bool) (xs : List A) (i : ℕ) (whole : Bool) → length xs ≤ i
    → list_all p (drop i xs) ≡ whole → true ≡ whole
list_all-drop_end p xs i whole past e = sym (ap (list_all p) (drop-past_end xs i past)) ∙ e
