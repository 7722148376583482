-- The words of a source with barriers look like those of the source with the words of barriers between.
use Rattle.std.proofs.Common.{◌≡◌, ◌+◌, ◌++◌, ℕ, ℤ, suc, pos, negsuc, ◌+ℤ◌, ◌-ℤ◌, ◌/◌, ◌%◌, ◌*◌, ◌^◌, neg_ℤ, Bool, true}
use Rattle.std.proofs.Common.{false, cond, ◌&&◌, eqb, nat_eq, nat_lt, nat_le, List, [], ◌∷◌, length, map, Option, Some}
use Rattle.std.proofs.Common.{None, is_some, slice_get, refl, sym, ◌∙◌, ap, IsSomeAnd}
use Rattle.std.specs.Option.{option_map, option_map_or}
use Rattle.std.specs.List.{flat_map, filter_map, All, cons_option}
use Rattle.std.proofs.lemmas.List.{map-append}
use Rattle.std.proofs.lemmas.List.Elements.{All-head, All-tail}
use Rattle.alpha_table.specs.declared.rows.MemOp.TheVariants.{Lda, Ldah}
use Rattle.alpha_table.specs.declared.form.Form.{Form}
use Rattle.alpha_table.specs.declared.form.Form.TheVariants.{Mem}
use Rattle.alpha_table.specs.Class.{Class, barrier}
use Rattle.alpha_table.specs.ClassOf.{class_of}
use Rattle.alpha_table.specs.Decoded.{decoded}
use Rattle.alpha_table.proofs.Levels.{level_in-decoded}
use Rattle.alpha_text.specs.Reading.{LineStmt}
use Rattle.alpha_image.specs.Parts.{IsCodeWord}
use Rattle.alpha_words.specs.declared.Level.{Level}
use Rattle.alpha_asm.specs.declared.statement.RelocField.TheVariants.{Branch as branches, High, Low}
use Rattle.alpha_asm.specs.declared.patch.Displacement.TheVariants.{Words, Bytes}
use Rattle.alpha_asm.specs.declared.place.LabelLocation.{LabelLocation}
use Rattle.alpha_asm.specs.declared.place.LabelLocation.TheVariants.{Code, Data}
use Rattle.alpha_asm.specs.declared.statement.RelocField.{RelocField}
use Rattle.alpha_asm.specs.Statement.{half_applies, Reference, InsnStmt, coded}
use Rattle.alpha_asm.specs.Layout.{Place, Placed, place_after, placed, is_of_code}
use Rattle.alpha_asm.specs.Program.{Known, location_address, address_of, words_over, high_half, low_half, halved}
use Rattle.alpha_asm.specs.Program.{displaced}
use Rattle.alpha_asm.specs.Program.{insn_in, code_in}
use Rattle.alpha_fix.specs.FixedSource.{bar_if}
use Rattle.alpha_fix.proofs.FixedItems.{trapb_stmt, trapb_item, fixed_items}
use Rattle.alpha_fix.proofs.PlaceCores.{blurred_location}
use Rattle.alpha_fix.proofs.SteadyClasses.{steady, word_class}
use Rattle.alpha_fix.proofs.BarrierMarks.{marked}

abbrev pub form_class : Form → Class
form_class f = steady (class_of f)

-- what addresses depend on is the same, but for how many words stand before a label of the code
pub record KnownAlike (k k2 : Known) : Type 0 where
  pub same_base : k.code_base ≡ k2.code_base
  pub same_segments : k.segments ≡ k2.segments
  pub same_spots : (name : List ℕ) → blurred_location (k.locations name) ≡ blurred_location (k2.locations name)

-- each half of the address of a label of the code stands in LDA or LDAH
abbrev pub SteadyReach : (List ℕ → Bool) → Form → Option (RelocField × Reference) → Type 0
SteadyReach of_code insn None = Unit {0}
SteadyReach of_code insn (Some (branches, r)) = Unit {0}
SteadyReach of_code insn (Some (High, r)) = of_code r.label ≡ true → half_applies insn ≡ true
SteadyReach of_code insn (Some (Low, r)) = of_code r.label ≡ true → half_applies insn ≡ true

abbrev pub SteadyCoded : (List ℕ → Bool) → Option InsnStmt → Type 0
SteadyCoded of_code None = Unit {0}
SteadyCoded of_code (Some c) = SteadyReach of_code c.insn c.reach

abbrev pub AreSteady : (List ℕ → Bool) → List LineStmt → Type 0
AreSteady of_code [] = Unit {0}
AreSteady of_code (i ∷ is) = SteadyCoded of_code (coded i.statement) × AreSteady of_code is

-- another displacement

words_class : (insn : Form) (d : ℤ) → form_class (displaced insn (Words d)) ≡ form_class insn
words_class (Mem op ra rb disp) d = refl
words_class insn d = refl

words_choice : (insn : Form) (b : Bool) (d : ℤ)
    → form_class (option_map_or (displaced insn) (cond b (Some (Words d)) None) insn) ≡ form_class insn
words_choice insn true d = words_class insn d
words_choice insn false d = refl

over_class : (insn : Form) (d : ℤ) → form_class (option_map_or (displaced insn) (words_over d) insn) ≡ form_class insn
over_class insn (pos d) = words_choice insn (eqb (d % 4) 0 && nat_lt d (2 ^ 22)) (pos (d / 4))
over_class insn (negsuc d) =
    words_choice insn (eqb ((d + 1) % 4) 0 && nat_le (d + 1) (2 ^ 22)) (neg_ℤ (pos ((d + 1) / 4)))

bytes_class : (insn : Form) (d : ℤ) → half_applies insn ≡ true → form_class (displaced insn (Bytes d)) ≡ form_class insn
bytes_class (Mem Lda ra rb disp) d h = refl
bytes_class (Mem Ldah ra rb disp) d h = refl
bytes_class _ d h = cc

half_class : (insn : Form) (f : ℕ → ℤ) (o : Option ℕ) → half_applies insn ≡ true
    → form_class (option_map_or (displaced insn) (option_map (λ n. Bytes (f n)) o) insn) ≡ form_class insn
half_class insn f None h = refl
half_class insn f (Some n) h = bytes_class insn (f n) h

-- an address that isn't one of the code

same_location : (a b : Option LabelLocation) → blurred_location a ≡ blurred_location b → is_of_code a ≡ false → a ≡ b
same_location None None e h = refl
same_location None (Some s) e h = cc
same_location (Some (Code n)) b e h = cc
same_location (Some (Data segment offset)) None e h = cc
same_location (Some (Data segment offset)) (Some (Code n)) e h = cc
same_location (Some (Data segment offset)) (Some (Data other far)) e h = e

module _ (k k2 : Known) (same : KnownAlike k k2) where
  same_address : (s : Option LabelLocation) (offset : ℤ)
      → pos (option_map_or (location_address k) s 0) +ℤ offset ≡ pos (option_map_or (location_address k2) s 0) +ℤ offset
  same_address None offset = refl
  same_address (Some (Code n)) offset = ap (λ (b : ℕ). pos (b + 4 * n) +ℤ offset) same.same_base
  same_address (Some (Data segment far)) offset =
      ap (λ ss. pos (option_map_or (λ s. s.base) (slice_get ss segment) 0 + far) +ℤ offset) same.same_segments

  data_address : (r : Reference) → is_of_code (k.locations r.label) ≡ false → address_of k r ≡ address_of k2 r
  data_address r h =
      same_address (k.locations r.label) r.offset
      ∙ ap (λ s. pos (option_map_or (location_address k2) s 0) +ℤ r.offset)
      (same_location (k.locations r.label) (k2.locations r.label) (same.same_spots r.label) h)

  half_same : (insn : Form) (f : ℕ → ℤ) (r : Reference)
      → (is_of_code (k.locations r.label) ≡ true → half_applies insn ≡ true)
      → form_class (option_map_or (displaced insn) (option_map (λ n. Bytes (f n)) (halved (address_of k r))) insn)
      ≡ form_class (option_map_or (displaced insn) (option_map (λ n. Bytes (f n)) (halved (address_of k2 r))) insn)
  half_same insn f r h = by (is_of_code (k.locations r.label)) refl
    where
      by : (b : Bool) → is_of_code (k.locations r.label) ≡ b
          → form_class (option_map_or (displaced insn) (option_map (λ n. Bytes (f n)) (halved (address_of k r))) insn)
          ≡ form_class (option_map_or (displaced insn) (option_map (λ n. Bytes (f n)) (halved (address_of k2 r))) insn)
      by true e =
          half_class insn f (halved (address_of k r)) (h e) ∙ sym (half_class insn f (halved (address_of k2 r)) (h e))
      by false e =
          ap (λ a. form_class (option_map_or (displaced insn) (option_map (λ n. Bytes (f n)) (halved a)) insn))
          (data_address r e)

  insn_same : (p q : Place) (insn : Form) (reach : Option (RelocField × Reference))
      → SteadyReach (λ name. is_of_code (k.locations name)) insn reach
      → form_class (insn_in k p (record { insn = insn; reach = reach }))
      ≡ form_class (insn_in k2 q (record { insn = insn; reach = reach }))
  insn_same p q insn None s = refl
  insn_same p q insn (Some (branches, r)) s =
      over_class insn (address_of k r -ℤ pos (k.code_base + 4 * p.words + 4))
      ∙ sym (over_class insn (address_of k2 r -ℤ pos (k2.code_base + 4 * q.words + 4)))
  insn_same p q insn (Some (High, r)) s = half_same insn (λ n. pos (high_half n)) r s
  insn_same p q insn (Some (Low, r)) s = half_same insn low_half r s

-- the classes of the code of items

abbrev pub classes : Known → List Placed → List Class
classes k xs = flat_map (λ x. map form_class (code_in k x)) xs

pub classes_code : (k : Known) (xs : List Placed) → map form_class (flat_map (code_in k) xs) ≡ classes k xs
classes_code k [] = refl
classes_code k (x ∷ xs) =
    map-append form_class (code_in k x) (flat_map (code_in k) xs)
    ∙ ap (λ l. map form_class (code_in k x) ++ l) (classes_code k xs)

abbrev pub bar_class : Class
bar_class = barrier None

abbrev coded_classes : Known → Place → Option InsnStmt → List Class
coded_classes k p o = map form_class (option_map_or (λ c. insn_in k p c ∷ []) o [])

bar_classes : (k2 : Known) (x : List Class) (b : Bool) (is : List LineStmt) (q : Place) (l : ℕ)
    → ((r : Place) (m : ℕ) → classes k2 (placed r m is) ≡ x)
    → classes k2 (placed q l (bar_if b trapb_item ++ is)) ≡ bar_if b bar_class ++ x
bar_classes k2 x true is q l h = ap (λ t. bar_class ∷ t) (h (place_after q trapb_stmt) (l + 1))
bar_classes k2 x false is q l h = h q l

module _ (k k2 : Known) (same : KnownAlike k k2) where
  class_step : (o : Option InsnStmt) (c m : Bool) (i : LineStmt)
      (r1 r2 : List LineStmt) (p q : Place) (l : ℕ) (x y1 y2 : List Class)
      → coded i.statement ≡ o → SteadyCoded (λ name. is_of_code (k.locations name)) o
      → ((r : Place) (j : ℕ) → classes k2 (placed r j r1) ≡ y1)
      → ((r : Place) (j : ℕ) → classes k2 (placed r j r2) ≡ y2)
      → classes k2 (placed q l (cond (is_some o) (bar_if c trapb_item ++ (i ∷ (bar_if m trapb_item ++ r1))) (i ∷ r2)))
      ≡ option_map_or (λ d. bar_if c bar_class ++ (form_class (insn_in k p d) ∷ (bar_if m bar_class ++ y1))) o y2
  class_step None c m i r1 r2 p q l x y1 y2 e s g h =
      ap (λ o. coded_classes k2 q o ++ classes k2 (placed (place_after q i.statement) (l + 1) r2)) e
      ∙ h (place_after q i.statement) (l + 1)
  class_step (Some d) c m i r1 r2 p q l x y1 y2 e s g h =
      bar_classes k2 (form_class (insn_in k p d) ∷ (bar_if m bar_class ++ y1)) c (i ∷ (bar_if m trapb_item ++ r1)) q l
      (λ r j.
      ap
      (λ o. coded_classes k2 r o ++ classes k2 (placed (place_after r i.statement) (j + 1) (bar_if m trapb_item ++ r1)))
      e
      ∙ (ap (λ f. f ∷ classes k2 (placed (place_after r i.statement) (j + 1) (bar_if m trapb_item ++ r1)))
      (sym (insn_same k k2 same p r d.insn d.reach s))
      ∙ ap (λ t. form_class (insn_in k p d) ∷ t) (bar_classes k2 y1 m r1 (place_after r i.statement) (j + 1) g)))

  marked_step : (o : Option InsnStmt) (cut : ℕ → Bool) (n j : ℕ) (i : LineStmt) (p : Place) (m : ℕ) (is : List LineStmt)
      → coded i.statement ≡ o
      → option_map_or
      (λ d. bar_if (cut j) bar_class ++ (form_class (insn_in k p d) ∷ (bar_if (nat_eq (j + 1) n && cut n) bar_class
      ++ marked bar_class cut n (j + 1) (classes k (placed (place_after p i.statement) (m + 1) is)))))
      o
      (marked bar_class cut n j (classes k (placed (place_after p i.statement) (m + 1) is)))
      ≡ marked bar_class cut n j (classes k (placed p m (i ∷ is)))
  marked_step None cut n j i p m is e =
      ap
      (λ o. marked bar_class cut n j (coded_classes k p o ++ classes k (placed (place_after p i.statement) (m + 1) is)))
      (sym e)
  marked_step (Some d) cut n j i p m is e =
      ap
      (λ o. marked bar_class cut n j (coded_classes k p o ++ classes k (placed (place_after p i.statement) (m + 1) is)))
      (sym e)

  pub classes_marked : (cut : ℕ → Bool) (n j : ℕ) (is : List LineStmt) (p q : Place) (m l : ℕ)
      → AreSteady (λ name. is_of_code (k.locations name)) is
      → classes k2 (placed q l (fixed_items cut n j is)) ≡ marked bar_class cut n j (classes k (placed p m is))
  classes_marked cut n j [] p q m l s = refl
  classes_marked cut n j (i ∷ is) p q m l (s, ss) =
      let y1 : List Class =
      marked bar_class cut n (j + 1) (classes k (placed (place_after p i.statement) (m + 1) is)) in
      let y2 : List Class = marked bar_class cut n j (classes k (placed (place_after p i.statement) (m + 1) is)) in
      class_step (coded i.statement) (cut j) (nat_eq (j + 1) n && cut n) i (fixed_items cut n (j + 1) is)
      (fixed_items cut n j is) p q l [] y1 y2 refl s
      (λ r a. classes_marked cut n (j + 1) is (place_after p i.statement) r (m + 1) a ss)
      (λ r a. classes_marked cut n j is (place_after p i.statement) r (m + 1) a ss)
      ∙ marked_step (coded i.statement) cut n j i p m is refl

-- the classes of an image's words

word_step : (o : Option Form) (w : ℕ) (rest : List ℕ) (level : Level) → decoded w ≡ o → IsSomeAnd o (λ i. Unit {0})
    → map word_class rest ≡ map (λ c. Some c) (map form_class (filter_map decoded rest))
    → option_map steady (option_map class_of o) ∷ map word_class rest
    ≡ map (λ c. Some c) (map form_class (cons_option o (filter_map decoded rest)))
word_step None w rest level e s h = absurd s
word_step (Some f) w rest level e s h = ap (λ t. Some (form_class f) ∷ t) h

some_and : {A : Type 0} (P : A → Type 0) (o : Option A) → IsSomeAnd o P → IsSomeAnd o (λ i. Unit {0})
some_and P None h = h
some_and P (Some x) h = tt

pub word_class-filter_map_decoded : (level : Level) (ws : List ℕ) → All (IsCodeWord level) ws
    → map word_class ws ≡ map (λ c. Some c) (map form_class (filter_map decoded ws))
word_class-filter_map_decoded level [] a = refl
word_class-filter_map_decoded level (w ∷ ws) a =
    word_step (decoded w) w ws level refl
    (some_and _ (decoded w) ((level_in-decoded level w).0 (All-head (IsCodeWord level) w ws a).1))
    (word_class-filter_map_decoded level ws (All-tail (IsCodeWord level) w ws a))

length_step : (o : Option Form) (rest : List ℕ) → IsSomeAnd o (λ i. Unit {0})
    → length (cons_option o (filter_map decoded rest)) ≡ suc (length (filter_map decoded rest))
length_step None rest s = absurd s
length_step (Some f) rest s = refl

pub length-filter_map_decoded : (level : Level) (ws : List ℕ) → All (IsCodeWord level) ws
    → length (filter_map decoded ws) ≡ length ws
length-filter_map_decoded level [] a = refl
length-filter_map_decoded level (w ∷ ws) a =
    length_step (decoded w) ws
    (some_and _ (decoded w) ((level_in-decoded level w).0 (All-head (IsCodeWord level) w ws a).1))
    ∙ ap suc (length-filter_map_decoded level ws (All-tail (IsCodeWord level) w ws a))
