-- What a move and items do over an input, they do over its front that they took; and where more follows they leave
-- that.
use Rattle.std.proofs.Common.{◌≡◌, ◌+◌, ◌&&◌, not, ℕ, zero, suc, Bool, true, false, cond, List, [], ◌∷◌, ◌++◌, length}
use Rattle.std.proofs.Common.{take, drop, Option, Some, None, Ok, refl, sym, ap, ◌∙◌, append_assoc}
use Rattle.std.proofs.lemmas.List.{take-append-drop}
use Rattle.std.proofs.Math.Seq.{drop-append_seam}
use Rattle.std.specs.Option.{option_and_then}
use Rattle.alpha_seq.specs.State.{Program}
use Rattle.alpha_seq.specs.Step.{next_class}
use Rattle.alpha_seq.proofs.InputRequests.{drop-taken}
use Rattle.alpha_seq.proofs.InputPrefixes.{take-taken_prefix}
use Rattle.alpha_imprecise.specs.StepResult.{StepResult}
use Rattle.alpha_imprecise.specs.Step.{imprecise_step}
use Rattle.alpha_imprecise.specs.Run.{finished, given_to}
use Rattle.alpha_imprecise.proofs.EffectiveChoices.{imprecise_step-HasEffectiveChoice}
use Rattle.alpha_replay.specs.declared.item.Item.{Item}
use Rattle.alpha_replay.specs.declared.item.Item.TheVariants as items
use Rattle.alpha_replay.specs.declared.moves.Move.{Move}
use Rattle.alpha_replay.specs.declared.moves.Move.TheVariants.{One, Trips, Waits, Reports}
use Rattle.alpha_replay.specs.Moves.{choice_of, move_applies}
use Rattle.alpha_replay.specs.Listed.{Played, played_by, played_over, move, units, item, listed_then, listed_from}

-- where one run leads to another by some part of a journal, a front of its input leads it there, where a front of the
-- rest is left
abbrev LeadsByPrefix : (Played → Option Played) → Played → Played → List ℕ → List ℕ → Type 0
LeadsByPrefix part p q b r = (a : List ℕ) × (p.run.left ≡ a ++ r) × (part (played_over a p) ≡ Some (played_over b q))

module _ (g : Program) where
  move_feeds : (p q : Played) (m : Move) (b r : List ℕ) → move g p m ≡ Some q → q.run.left ≡ b ++ r
      → LeadsByPrefix (λ x. move g x m) p q b r
  move_feeds p q m b r e left =
      by (not (finished p.run.at.last_event)
      && move_applies (next_class g p.run.at.state.pc) p.run.at.state p.run.at.pending p.waited m)
      refl e
    where
      by : (x : Bool)
          → (not (finished p.run.at.last_event)
          && move_applies (next_class g p.run.at.state.pc) p.run.at.state p.run.at.pending p.waited m) ≡ x
          → cond x (Some (played_by p (imprecise_step g p.run.at.state p.run.at.pending (choice_of m) p.run.left))) None
          ≡ Some q
          → LeadsByPrefix (λ x. move g x m) p q b r
      by false guard e = absurd cc
      by true guard e =
          let s = p.run.at.state in
          let xs = p.run.left in
          let f = imprecise_step-HasEffectiveChoice g s p.run.at.pending (choice_of m) in
          let w = imprecise_step g s p.run.at.pending (choice_of m) xs in
          let same : played_by p w ≡ q = cc in
          let gave : given_to w.last_event ≡ take f.count xs = f.gives xs in
          let rest : drop f.count xs ≡ b ++ r =
          sym (ap (λ (l : List ℕ). drop (length l) xs) gave ∙ drop-taken f.count xs)
          ∙ (ap (λ (x : Played). x.run.left) same ∙ left) in
          let front = take f.count xs ++ b in
          let again : imprecise_step g s p.run.at.pending (choice_of m) front ≡ w =
          f.only front
          ∙ (ap (imprecise_step g s p.run.at.pending (choice_of m)) (sym (take-taken_prefix f.count xs b r (sym rest)))
          ∙ sym (f.only xs)) in
          let leaves : drop (length (given_to w.last_event)) front ≡ b =
          ap (λ (l : List ℕ). drop (length l) front) gave ∙ drop-append_seam (take f.count xs) b in (
            front,
            sym (take-append-drop f.count xs)
                ∙ (ap (λ (l : List ℕ). take f.count xs ++ l) rest ∙ sym (append_assoc (take f.count xs) b r)),
            ap (λ (x : Bool). cond x
                (Some (played_by (played_over front p) (imprecise_step g s p.run.at.pending (choice_of m) front))) None)
                guard
                ∙ (ap (λ (x : StepResult). Some (played_by (played_over front p) x)) again
                ∙ (ap (λ (l : List ℕ). Some (played_over l (played_by p w))) leaves
                ∙ ap (λ (x : Played). Some (played_over b x)) same)),
          )

  -- ---- an item

  units_feeds : (n : ℕ) (p q : Played) (b r : List ℕ) → units g n p ≡ Some q → q.run.left ≡ b ++ r
      → LeadsByPrefix (units g n) p q b r
  units_feeds zero p q b r e left =
      let same : p ≡ q = cc in
      (b, ap (λ (x : Played). x.run.left) same ∙ left, ap (λ (x : Played). Some (played_over b x)) same)
  units_feeds (suc n) p q b r e left = by (λ mid a is h. units_feeds n p mid a r is h) (units g n p) refl e
    where
      by : ((mid : Played) (a : List ℕ) → units g n p ≡ Some mid → mid.run.left ≡ a ++ r
          → LeadsByPrefix (units g n) p mid a r)
          → (x : Option Played) → units g n p ≡ x → option_and_then (λ y. move g y One) x ≡ Some q
          → LeadsByPrefix (units g (suc n)) p q b r
      by before None is e = absurd cc
      by before (Some mid) is e =
          let last = move_feeds mid q One b r e left in
          let first = before mid last.0 is last.1 in
          (first.0, first.1, ap (option_and_then (λ y. move g y One)) first.2 ∙ last.2)

  item_feeds : (i : Item) (p q : Played) (b r : List ℕ) → item g i p ≡ Some q → q.run.left ≡ b ++ r
      → LeadsByPrefix (item g i) p q b r
  item_feeds (items.Units n) p q b r e left = units_feeds n p q b r e left
  item_feeds (items.Trigger value) p q b r e left = move_feeds p q (Trips value) b r e left
  item_feeds (items.Wait adds value) p q b r e left = move_feeds p q (Waits adds value) b r e left
  item_feeds items.Report p q b r e left = move_feeds p q Reports b r e left

  -- ---- items

  pub list_feeds : (n : ℕ) (is : List Item) (p q : Played) (b r : List ℕ) → listed_from g n is p ≡ Ok q
      → q.run.left ≡ b ++ r
      → (a : List ℕ) × (p.run.left ≡ a ++ r) × (listed_from g n is (played_over a p) ≡ Ok (played_over b q))
  list_feeds n [] p q b r e left =
      let same : p ≡ q = cc in
      (b, ap (λ (x : Played). x.run.left) same ∙ left, ap (λ (x : Played). Ok (played_over b x)) same)
  list_feeds n (i ∷ is) p q b r e left = by (λ mid h. list_feeds (n + 1) is mid q b r h left) (item g i p) refl e
    where
      by : ((mid : Played) → listed_from g (n + 1) is mid ≡ Ok q
          → ((a : List ℕ) × (mid.run.left ≡ a ++ r)
          × (listed_from g (n + 1) is (played_over a mid) ≡ Ok (played_over b q))))
          → (x : Option Played) → item g i p ≡ x → listed_then n (λ y. listed_from g (n + 1) is y) x ≡ Ok q
          → (a : List ℕ) × (p.run.left ≡ a ++ r) × (listed_from g n (i ∷ is) (played_over a p) ≡ Ok (played_over b q))
      by behind None here e = absurd cc
      by behind (Some mid) here e =
          let last = behind mid e in
          let first = item_feeds i p mid last.0 r here last.1 in
          (first.0, first.1, ap (listed_then n (λ y. listed_from g (n + 1) is y)) first.2 ∙ last.2)
