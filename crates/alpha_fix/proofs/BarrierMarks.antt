-- Marks among the words of code, as the lines of a source have them and as the code with barriers has them.
use Rattle.std.proofs.Common.{◌≡◌, ◌<◌, ◌≤◌, ◌+◌, ◌-◌, ◌++◌, ℕ, zero, suc, Bool, true, false, ◌&&◌, ◌||◌, eqb, nat_eq}
use Rattle.std.proofs.Common.{List, [], ◌∷◌, Some, length, map, take, drop, slice_get, refl, sym, ◌∙◌, ap, subst}
use Rattle.std.proofs.Common.{append_assoc, ⊎_elim, arith}
use Rattle.std.proofs.lemmas.List.{append-nil, take-append-drop}
use Rattle.std.proofs.lemmas.Bool.{cases_lt}
use Rattle.std.proofs.lemmas.Bool.Decides.{nat_tests}
use Rattle.alpha_fix.specs.Cuts.{AreCutsAbove, AreCuts, Rise, trapb, barred_from, barred, without}
use Rattle.alpha_fix.specs.FixedSource.{is_cut, bar_if}
use Rattle.alpha_fix.proofs.BarredCode.{cut_within, piece_length}

-- a mark before each item at a cut, and behind the last one for a cut at the end
abbrev pub marked : {A : Type 0} → A → (ℕ → Bool) → ℕ → ℕ → List A → List A
marked bar cut n k [] = []
marked bar cut n k (w ∷ ws) =
    bar_if (cut k) bar ++ (w ∷ (bar_if (nat_eq (k + 1) n && cut n) bar ++ marked bar cut n (k + 1) ws))

map-bar : {A B : Type 0} (f : A → B) (b : Bool) (bar : A) (xs : List A)
    → map f (bar_if b bar ++ xs) ≡ bar_if b (f bar) ++ map f xs
map-bar f true bar xs = refl
map-bar f false bar xs = refl

pub map-marked : {A B : Type 0} (f : A → B) (bar : A) (cut : ℕ → Bool) (n k : ℕ) (ws : List A)
    → map f (marked bar cut n k ws) ≡ marked (f bar) cut n k (map f ws)
map-marked f bar cut n k [] = refl
map-marked f bar cut n k (w ∷ ws) =
    map-bar f (cut k) bar (w ∷ (bar_if (nat_eq (k + 1) n && cut n) bar ++ marked bar cut n (k + 1) ws))
    ∙ ap (λ t. bar_if (cut k) (f bar) ++ (f w ∷ t))
    (map-bar f (nat_eq (k + 1) n && cut n) bar (marked bar cut n (k + 1) ws)
    ∙ ap (λ t. bar_if (nat_eq (k + 1) n && cut n) (f bar) ++ t) (map-marked f bar cut n (k + 1) ws))

-- the same with the last mark at the end of the list
marked_to_end : ℕ → (ℕ → Bool) → ℕ → List ℕ → List ℕ
marked_to_end bar cut k [] = bar_if (cut k) bar
marked_to_end bar cut k (w ∷ ws) = bar_if (cut k) bar ++ (w ∷ marked_to_end bar cut (k + 1) ws)

marked_to_end-nil : (bar : ℕ) (cut : ℕ → Bool) (k : ℕ) → marked_to_end bar cut k [] ≡ bar_if (cut k) bar
unfolding marked_to_end
marked_to_end-nil bar cut k = refl

marked_to_end-cons : (bar : ℕ) (cut : ℕ → Bool) (k w : ℕ) (ws : List ℕ)
    → marked_to_end bar cut k (w ∷ ws) ≡ bar_if (cut k) bar ++ (w ∷ marked_to_end bar cut (k + 1) ws)
unfolding marked_to_end
marked_to_end-cons bar cut k w ws = refl

marked_onward : (bar : ℕ) (cut : ℕ → Bool) (n k w : ℕ) (ws : List ℕ) → k + length (w ∷ ws) ≡ n
    → marked bar cut n k (w ∷ ws) ≡ marked_to_end bar cut k (w ∷ ws)
marked_onward bar cut n k w [] h =
    let e : k + 1 ≡ n = omega arith in
    let t : nat_eq (k + 1) n ≡ true = grind (arith, nat_tests) in
    ap (λ b. bar_if (cut k) bar ++ (w ∷ (bar_if (b && cut n) bar ++ []))) t
    ∙ (ap (λ l. bar_if (cut k) bar ++ (w ∷ l))
    (append-nil (bar_if (cut n) bar) ∙ (ap (λ m. bar_if (cut m) bar) (sym e) ∙ sym (marked_to_end-nil bar cut (k + 1))))
    ∙ sym (marked_to_end-cons bar cut k w []))
marked_onward bar cut n k w (v ∷ ws) h =
    let far : k + 1 < n = omega arith in
    let t : nat_eq (k + 1) n ≡ false = grind (arith, nat_tests) in
    ap (λ b. bar_if (cut k) bar ++ (w ∷ (bar_if (b && cut n) bar ++ marked bar cut n (k + 1) (v ∷ ws)))) t
    ∙ (ap (λ l. bar_if (cut k) bar ++ (w ∷ l)) (marked_onward bar cut n (k + 1) v ws (omega arith))
    ∙ sym (marked_to_end-cons bar cut k w (v ∷ ws)))

-- marks depend on the cuts from here on alone
onward_alike : (bar : ℕ) (cut other : ℕ → Bool) (k : ℕ) (ws : List ℕ) → ((j : ℕ) → k ≤ j → cut j ≡ other j)
    → marked_to_end bar cut k ws ≡ marked_to_end bar other k ws
onward_alike bar cut other k [] h =
    marked_to_end-nil bar cut k ∙ (ap (λ b. bar_if b bar) (h k (omega arith)) ∙ sym (marked_to_end-nil bar other k))
onward_alike bar cut other k (w ∷ ws) h =
    marked_to_end-cons bar cut k w ws
    ∙ (ap (λ b. bar_if b bar ++ (w ∷ marked_to_end bar cut (k + 1) ws)) (h k (omega arith))
    ∙ (ap (λ l. bar_if (other k) bar ++ (w ∷ l)) (onward_alike bar cut other (k + 1) ws (λ j a. h j (omega arith)))
    ∙ sym (marked_to_end-cons bar other k w ws)))

pub rise-less : (from less : ℕ) (cuts : List ℕ) → less ≤ from → Rise from cuts → Rise less cuts
rise-less from less [] h r = tt
rise-less from less (cut ∷ cuts) h (l, r) = (omega arith, r)

abbrev AllWithin : ℕ → List ℕ → Type 0
AllWithin n [] = Unit {0}
AllWithin n (cut ∷ cuts) = (cut ≤ n) × AllWithin n cuts

pub cuts_rise : (code : List ℕ) (from : ℕ) (cuts : List ℕ) → AreCutsAbove code from cuts → Rise (from + 1) cuts
cuts_rise code from [] are = tt
cuts_rise code from (cut ∷ cuts) (next, more) = let a = next.breaks.above in (omega arith, cuts_rise code cut cuts more)

cuts_within : (code : List ℕ) (from : ℕ) (cuts : List ℕ) → AreCutsAbove code from cuts → AllWithin (length code) cuts
cuts_within code from [] are = tt
cuts_within code from (cut ∷ cuts) (next, more) = (cut_within code from cut next, cuts_within code cut cuts more)

pub below_cuts : (from place : ℕ) (cuts : List ℕ) → Rise from cuts → place < from → is_cut cuts place ≡ false
below_cuts from place [] r h = refl
below_cuts from place (cut ∷ cuts) (l, r) h =
    let t : eqb cut place ≡ false = grind (arith, nat_tests) in
    ap (λ b. b || is_cut cuts place) t ∙ below_cuts (cut + 1) place cuts r (omega arith)

pub first_cut : (cut : ℕ) (cuts : List ℕ) → is_cut (cut ∷ cuts) cut ≡ true
first_cut cut cuts = let t : eqb cut cut ≡ true = grind (arith, nat_tests) in ap (λ b. b || is_cut cuts cut) t

pub later_cut : (cut place : ℕ) (cuts : List ℕ) → cut < place → is_cut (cut ∷ cuts) place ≡ is_cut cuts place
later_cut cut place cuts h =
    let t : eqb cut place ≡ false = grind (arith, nat_tests) in
    ap (λ b. b || is_cut cuts place) t

pub earlier_cut : (cut place : ℕ) (cuts : List ℕ) → Rise (cut + 1) cuts → place < cut
    → is_cut (cut ∷ cuts) place ≡ false
earlier_cut cut place cuts r h = below_cuts cut place (cut ∷ cuts) (omega arith, r) h

-- the words from k on, with a barrier at each cut
abbrev words_with_barriers : ℕ → List ℕ → List ℕ → List ℕ
words_with_barriers k ws [] = ws
words_with_barriers k ws (cut ∷ cuts) = take (cut - k) ws ++ trapb ∷ words_with_barriers cut (drop (cut - k) ws) cuts

drop-drop : (n m : ℕ) (xs : List ℕ) → drop n (drop m xs) ≡ drop (m + n) xs
drop-drop n zero xs = let e : n ≡ 0 + n = omega arith in ap (λ (i : ℕ). drop i xs) e
drop-drop zero (suc m) [] = let e : suc m + 0 ≡ suc m = omega arith in sym (ap (λ (i : ℕ). drop {A = ℕ} i []) e)
drop-drop (suc n) (suc m) [] =
    let e : suc m + suc n ≡ suc (m + suc n) = omega arith in
    sym (ap (λ (i : ℕ). drop {A = ℕ} i []) e)
drop-drop n (suc m) (x ∷ xs) =
    let e : suc (m + n) ≡ suc m + n = omega arith in
    drop-drop n m xs ∙ ap (λ (i : ℕ). drop i (x ∷ xs)) e

part_barred : (code : List ℕ) (from : ℕ) (cuts : List ℕ) → Rise from cuts
    → words_with_barriers from (drop from code) cuts ≡ barred_from code from cuts
part_barred code from [] r = refl
part_barred code from (cut ∷ cuts) (l, r) =
    let e : from + (cut - from) ≡ cut = omega arith in
    ap (λ t. take (cut - from) (drop from code) ++ trapb ∷ t)
    (ap (λ (d : List ℕ). words_with_barriers cut d cuts)
    (drop-drop (cut - from) from code ∙ ap (λ (i : ℕ). drop i code) e)
    ∙ part_barred code cut cuts (rise-less (cut + 1) cut cuts (omega arith) r))

part_step : (k w : ℕ) (ws cuts : List ℕ) → Rise (k + 1) cuts
    → words_with_barriers k (w ∷ ws) cuts ≡ w ∷ words_with_barriers (k + 1) ws cuts
part_step k w ws [] r = refl
part_step k w ws (cut ∷ cuts) (l, r) =
    let e : cut - k ≡ suc (cut - (k + 1)) = omega arith in
    ap (λ (i : ℕ). take i (w ∷ ws) ++ trapb ∷ words_with_barriers cut (drop i (w ∷ ws)) cuts) e

same_here : (k cut : ℕ) (ws cuts : List ℕ) → k ≡ cut
    → words_with_barriers k ws (cut ∷ cuts) ≡ trapb ∷ words_with_barriers k ws cuts
same_here k cut ws cuts e =
    let z : cut - k ≡ 0 = omega arith in
    ap (λ (i : ℕ). take i ws ++ trapb ∷ words_with_barriers cut (drop i ws) cuts) z
    ∙ ap (λ (i : ℕ). trapb ∷ words_with_barriers i ws cuts) (sym e)

onward_cut : (k v cut : ℕ) (ws cuts : List ℕ) → Rise (cut + 1) cuts → k ≡ cut
    → marked_to_end trapb (is_cut cuts) (k + 1) ws ≡ words_with_barriers (k + 1) ws cuts
    → marked_to_end trapb (is_cut (cut ∷ cuts)) k (v ∷ ws) ≡ words_with_barriers k (v ∷ ws) (cut ∷ cuts)
onward_cut k v cut ws cuts r e h =
    marked_to_end-cons trapb (is_cut (cut ∷ cuts)) k v ws
    ∙ (ap (λ b. bar_if b trapb ++ (v ∷ marked_to_end trapb (is_cut (cut ∷ cuts)) (k + 1) ws))
    (ap (is_cut (cut ∷ cuts)) e ∙ first_cut cut cuts)
    ∙ (ap (λ t. trapb ∷ v ∷ t)
    (onward_alike trapb (is_cut (cut ∷ cuts)) (is_cut cuts) (k + 1) ws (λ j a. later_cut cut j cuts (omega arith)) ∙ h)
    ∙ sym (same_here k cut (v ∷ ws) cuts e
    ∙ ap (λ t. trapb ∷ t) (part_step k v ws cuts (rise-less (cut + 1) (k + 1) cuts (omega arith) r)))))

onward_between : (k v cut : ℕ) (ws cuts : List ℕ) → Rise (cut + 1) cuts → k < cut
    → marked_to_end trapb (is_cut (cut ∷ cuts)) (k + 1) ws ≡ words_with_barriers (k + 1) ws (cut ∷ cuts)
    → marked_to_end trapb (is_cut (cut ∷ cuts)) k (v ∷ ws) ≡ words_with_barriers k (v ∷ ws) (cut ∷ cuts)
onward_between k v cut ws cuts r l h =
    marked_to_end-cons trapb (is_cut (cut ∷ cuts)) k v ws
    ∙ (ap (λ b. bar_if b trapb ++ (v ∷ marked_to_end trapb (is_cut (cut ∷ cuts)) (k + 1) ws))
    (earlier_cut cut k cuts r l)
    ∙ (ap (λ t. v ∷ t) h ∙ sym (part_step k v ws (cut ∷ cuts) (omega arith, r))))

onward_part : (k : ℕ) (ws cuts : List ℕ) → Rise k cuts → AllWithin (k + length ws) cuts
    → marked_to_end trapb (is_cut cuts) k ws ≡ words_with_barriers k ws cuts
onward_part k [] [] r w = marked_to_end-nil trapb (is_cut []) k
onward_part k [] (cut ∷ []) (l, r) (m, w) =
    let e : k ≡ cut = omega arith in
    marked_to_end-nil trapb (is_cut (cut ∷ [])) k
    ∙ (ap (λ b. bar_if b trapb) (ap (is_cut (cut ∷ [])) e ∙ first_cut cut []) ∙ sym (same_here k cut [] [] e))
onward_part k [] (cut ∷ second ∷ cuts) (l, r) (m, w) = let a = r.0 in let b = w.0 in absurd (omega arith)
onward_part k (v ∷ ws) [] r w =
    marked_to_end-cons trapb (is_cut []) k v ws ∙ ap (λ t. v ∷ t) (onward_part (k + 1) ws [] tt tt)
onward_part k (v ∷ ws) (cut ∷ cuts) (l, r) (m, w) =
    let e : k + suc (length ws) ≡ k + 1 + length ws = omega arith in
    ⊎_elim
    (λ (h : k < cut). onward_between k v cut ws cuts r h
    (onward_part (k + 1) ws (cut ∷ cuts) (omega arith, r) (omega arith, subst (λ n. AllWithin n cuts) e w)))
    (λ (h : cut ≤ k). onward_cut k v cut ws cuts r (omega arith)
    (onward_part (k + 1) ws cuts (rise-less (cut + 1) (k + 1) cuts (omega arith) r)
    (subst (λ n. AllWithin n cuts) e w)))
    (cases_lt k cut)

pub marked_barred : (code cuts : List ℕ) → AreCuts code cuts → 0 < length code
    → marked trapb (is_cut cuts) (length code) 0 code ≡ barred code cuts
marked_barred [] cuts are h = absurd (omega arith)
marked_barred (v ∷ ws) cuts are h =
    let r : Rise 0 cuts = rise-less 1 0 cuts (omega arith) (cuts_rise (v ∷ ws) 0 cuts are) in
    let e : length (v ∷ ws) ≡ 0 + length (v ∷ ws) = omega arith in
    marked_onward trapb (is_cut cuts) (length (v ∷ ws)) 0 v ws (omega arith)
    ∙ (onward_part 0 (v ∷ ws) cuts r (subst (λ n. AllWithin n cuts) e (cuts_within (v ∷ ws) 0 cuts are))
    ∙ part_barred (v ∷ ws) 0 cuts r)

-- code without the barrier of one cut

without_seam : {A : Type 0} (front : List A) (x : A) (rest : List A)
    → without (length front) (front ++ x ∷ rest) ≡ front ++ rest
without_seam [] x rest = refl
without_seam (y ∷ front) x rest = ap (λ t. y ∷ t) (without_seam front x rest)

without_past : {A : Type 0} (front : List A) (x : A) (rest : List A) (n : ℕ)
    → without (suc (length front + n)) (front ++ x ∷ rest) ≡ front ++ x ∷ without n rest
without_past [] x rest n = let e : 0 + n ≡ n = omega arith in ap (λ (i : ℕ). x ∷ without i rest) e
without_past (y ∷ front) x rest n =
    let e : suc (suc (length front) + n) ≡ suc (suc (length front + n)) = omega arith in
    ap (λ (i : ℕ). without i (y ∷ (front ++ x ∷ rest))) e ∙ ap (λ t. y ∷ t) (without_past front x rest n)

take-add : (a b : ℕ) (xs : List ℕ) → take a xs ++ take b (drop a xs) ≡ take (a + b) xs
take-add zero b xs = let e : b ≡ 0 + b = omega arith in ap (λ (i : ℕ). take i xs) e
take-add (suc a) zero [] = let e : suc a + 0 ≡ suc a = omega arith in sym (ap (λ (i : ℕ). take {A = ℕ} i []) e)
take-add (suc a) (suc b) [] =
    let e : suc a + suc b ≡ suc (a + suc b) = omega arith in
    sym (ap (λ (i : ℕ). take {A = ℕ} i []) e)
take-add (suc a) b (x ∷ xs) =
    let e : suc (a + b) ≡ suc a + b = omega arith in
    ap (λ t. x ∷ t) (take-add a b xs) ∙ ap (λ (i : ℕ). take i (x ∷ xs)) e

one_piece : (code : List ℕ) (from cut : ℕ) (cuts : List ℕ) → from ≤ cut → Rise (cut + 1) cuts
    → take (cut - from) (drop from code) ++ barred_from code cut cuts ≡ barred_from code from cuts
one_piece code from cut [] l r =
    let e : from + (cut - from) ≡ cut = omega arith in
    ap (λ t. take (cut - from) (drop from code) ++ t)
    (ap (λ (i : ℕ). drop i code) (sym e) ∙ sym (drop-drop (cut - from) from code))
    ∙ take-append-drop (cut - from) (drop from code)
one_piece code from cut (next ∷ cuts) l (m, r) =
    let e : from + (cut - from) ≡ cut = omega arith in
    let f : (cut - from) + (next - cut) ≡ next - from = omega arith in
    let rest : List ℕ = trapb ∷ barred_from code next cuts in
    sym (append_assoc (take (cut - from) (drop from code)) (take (next - cut) (drop cut code)) rest)
    ∙ ap (λ t. t ++ rest)
    (ap (λ (d : List ℕ). take (cut - from) (drop from code) ++ take (next - cut) d)
    (ap (λ (i : ℕ). drop i code) (sym e) ∙ sym (drop-drop (cut - from) from code))
    ∙ (take-add (cut - from) (next - cut) (drop from code) ∙ ap (λ (i : ℕ). take i (drop from code)) f))

rise_get : (from : ℕ) (cuts : List ℕ) (j k : ℕ) → Rise from cuts → slice_get cuts j ≡ Some k → from ≤ k
rise_get from [] j k r h = cc
rise_get from (cut ∷ cuts) zero k (l, r) h = let e : cut ≡ k = cc in omega arith
rise_get from (cut ∷ cuts) (suc j) k (l, r) h = let m = rise_get (cut + 1) cuts j k r h in omega arith

without_from : (code : List ℕ) (from : ℕ) (cuts : List ℕ) (j k : ℕ) → Rise from cuts → AllWithin (length code) cuts
    → slice_get cuts j ≡ Some k
    → without ((k - from) + j) (barred_from code from cuts) ≡ barred_from code from (without j cuts)
without_from code from [] j k r w h = cc
without_from code from (cut ∷ cuts) zero k (l, r) (m, w) h =
    let front : List ℕ = take (cut - from) (drop from code) in
    let rest : List ℕ = barred_from code cut cuts in
    let e : cut ≡ k = cc in
    let size : length front ≡ cut - from = piece_length code from cut l m in
    let n : (k - from) + 0 ≡ length front = omega arith in
    ap (λ (i : ℕ). without i (front ++ trapb ∷ rest)) n
    ∙ (without_seam front trapb rest ∙ one_piece code from cut cuts l r)
without_from code from (cut ∷ cuts) (suc j) k (l, r) (m, w) h =
    let front : List ℕ = take (cut - from) (drop from code) in
    let rest : List ℕ = barred_from code cut cuts in
    let above : cut + 1 ≤ k = rise_get (cut + 1) cuts j k r h in
    let size : length front ≡ cut - from = piece_length code from cut l m in
    let n : (k - from) + suc j ≡ suc (length front + ((k - cut) + j)) = omega arith in
    ap (λ (i : ℕ). without i (front ++ trapb ∷ rest)) n
    ∙ (without_past front trapb rest ((k - cut) + j)
    ∙ ap (λ t. front ++ trapb ∷ t) (without_from code cut cuts j k (rise-less (cut + 1) cut cuts (omega arith) r) w h))

pub without_barrier : (code cuts : List ℕ) (j k : ℕ) → AreCuts code cuts → slice_get cuts j ≡ Some k
    → without (k + j) (barred code cuts) ≡ barred code (without j cuts)
without_barrier code cuts j k are h =
    let e : k + j ≡ (k - 0) + j = omega arith in
    ap (λ (i : ℕ). without i (barred code cuts)) e
    ∙ without_from code 0 cuts j k (rise-less 1 0 cuts (omega arith) (cuts_rise code 0 cuts are))
    (cuts_within code 0 cuts are) h

pub map-without : {A B : Type 0} (f : A → B) (n : ℕ) (xs : List A) → map f (without n xs) ≡ without n (map f xs)
map-without f zero [] = refl
map-without f (suc n) [] = refl
map-without f zero (x ∷ xs) = refl
map-without f (suc n) (x ∷ xs) = ap (λ t. f x ∷ t) (map-without f n xs)
