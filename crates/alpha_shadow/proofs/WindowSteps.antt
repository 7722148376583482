-- What a window knows after one more word, or before the first.
use Rattle.std.proofs.Common.{◌≡◌, ◌≢◌, ◌<◌, ◌+◌, ◌⊎◌, ℕ, Option, Some, List, [], ◌∷◌, ◌++◌, length, slice_index}
use Rattle.std.proofs.Common.{slice_set, ap, inl, inr, ⊎_elim, arith, sym, refl, ◌∙◌, length-set, get_or-set_same}
use Rattle.std.proofs.Common.{get_or-set_other}
use Rattle.std.proofs.lemmas.Bool.{cases_eq}
use Rattle.alpha_words.specs.Regs.{Has}
use Rattle.alpha_table.specs.declared.columns.InsnKind.{InsnKind}
use Rattle.alpha_table.specs.declared.columns.InsnKind.TheVariants as kinds
use Rattle.alpha_table.specs.declared.columns.MemAccess.{MemAccess}
use Rattle.alpha_table.specs.Columns.{access_of}
use Rattle.alpha_shadow.specs.declared.columns.Columns.{Columns}
use Rattle.alpha_shadow.specs.declared.triggers.Trigger.{Trigger}
use Rattle.alpha_shadow.specs.declared.loads.Reach.{Reach}
use Rattle.alpha_shadow.specs.declared.window.Window.{Window}
use Rattle.alpha_shadow.specs.Code.{kind_at, Sets, Uses, SetIn}
use Rattle.alpha_shadow.specs.Columns.{HasColumns, destination_of}
use Rattle.alpha_shadow.specs.Window.{Summarizes, UsedIn, AreEnds, Notes, next_triggers, open_triggers, next_loads}
use Rattle.alpha_shadow.specs.Window.{open_loads}
use Rattle.alpha_shadow.specs.Reach.{reach_of}
use Rattle.alpha_shadow.proofs.Shadows.{open_triggers_next, open_triggers-nil}
use Rattle.alpha_shadow.proofs.OpenLoads.{open_loads_next, no_loads}
use Rattle.alpha_shadow.proofs.LastPlaces.{set_meets, used_meets, ends_next, ends_skip}

-- before the first word

ends_none : (code : List ℕ) (In : ℕ → ℕ → ℕ → Type 0) (ends : List ℕ) → length ends ≡ 32
    → ((r : ℕ) → slice_index ends r ≡ 0) → AreEnds code 0 In ends
ends_none code In ends size zeros = record {
  size = size;
  within = λ r. let z = zeros r in omega arith;
  tells = λ p r o small. let b = o.before in absurd (omega arith);
}

pub nothing_passed : (code : List ℕ) (w : Window) → w.triggers.items ≡ [] → w.loads.items ≡ [] → length w.set.ends ≡ 32
    → ((r : ℕ) → slice_index w.set.ends r ≡ 0)
    → length w.used.ends ≡ 32 → ((r : ℕ) → slice_index w.used.ends r ≡ 0) → Summarizes code w 0
unfolding open_triggers open_loads
nothing_passed code w t l s sets u uses = record {
  triggers = t;
  loads = l;
  set = ends_none code (SetIn code) w.set.ends s sets;
  used = ends_none code (UsedIn code) w.used.ends u uses;
}

-- what was noted of one more word

pub notes_uses : (code : List ℕ) (at : ℕ) (word : Columns) (before after : List ℕ) → HasColumns code at word
    → length after ≡ 32
    → ((r : ℕ) → Has word.uses r → slice_index after r ≡ at + 1)
    → ((r : ℕ) → (Has word.uses r → ⊥) → slice_index after r ≡ slice_index before r)
    → Notes (Uses code at) at before after
notes_uses code at word before after h same members others = record {
  size = same;
  either = λ r. ⊎_elim
      (λ (e : Has word.uses r). inl ((h.uses r).0 e, members r e))
      (λ not. inr (λ u. not ((h.uses r).1 u), others r not))
      (cases_eq _ 1);
}

pub notes_set : (code : List ℕ) (at r : ℕ) (word : Columns) (before after : List ℕ) → HasColumns code at word
    → word.sets ≡ Some r → r < length before → length before ≡ 32
    → after ≡ slice_set before r (at + 1) → Notes (Sets code at) at before after
notes_set code at r word before after h e small size set = record {
  size = rw set (simp length-set size);
  either = λ k. ⊎_elim
      (λ (same : k ≡ r).
      inl (h.sets ∙ (e ∙ ap Some (sym same)), rw (set, same) (get_or-set_same before r (at + 1) 0 small)))
      (λ not. inr (λ s. let t = h.sets in not cc, rw set (get_or-set_other before r k (at + 1) 0 not)))
      (cases_eq k r);
}

-- A window after a word of a shadow, by what became of its parts.
pub Summarizes-next : (code : List ℕ) (at : ℕ) (w after : Window) (word : Columns) → Summarizes code w at
    → HasColumns code at word
    → after.triggers.items
    ≡ next_triggers (Some word.kind) (record { place = at; destination = destination_of code at }) w.triggers.items
    → after.loads.items ≡ next_loads (Some word.kind) (access_of word.insn) w.triggers.items w.loads.items
    → Notes (Sets code at) at w.set.ends after.set.ends → Notes (Uses code at) at w.used.ends after.used.ends
    → Summarizes code after (at + 1)
Summarizes-next code at w after word s h t l set used = record {
  triggers =
      t ∙ (ap (next_triggers (Some word.kind) (record { place = at; destination = destination_of code at })) s.triggers
      ∙ sym (open_triggers_next code at word.kind (destination_of code at) h.kind refl));
  loads = l ∙ (ap (λ ts. next_loads (Some word.kind) (access_of word.insn) ts w.loads.items) s.triggers
      ∙ (ap (next_loads (Some word.kind) (access_of word.insn) (open_triggers code at)) s.loads
      ∙ sym (open_loads_next code at word.kind (access_of word.insn) h.kind h.access)));
  set = ends_next code at (SetIn code) (Sets code) w.set.ends after.set.ends (set_meets code) set s.set;
  used = ends_next code at (UsedIn code) (Uses code) w.used.ends after.used.ends (used_meets code) used s.used;
}

-- A word in no shadow changes nothing.
pub Summarizes-outside : (code : List ℕ) (at : ℕ) (w : Window) (kind : InsnKind) → Summarizes code w at
    → kind_at code at ≡ Some kind → w.triggers.items ≡ [] → kind ≢ kinds.Trigger
    → Summarizes code w (at + 1)
Summarizes-outside code at w kind s k t other =
    let none : open_triggers code at ≡ [] = sym s.triggers ∙ t in
    let none_next : open_triggers code (at + 1) ≡ [] = open_triggers_next code at kind (destination_of code at) k refl
    ∙ (ap (next_triggers (Some kind) (record { place = at; destination = destination_of code at })) none
    ∙ still kind other (record { place = at; destination = destination_of code at })) in
    record {
      triggers = t ∙ sym none_next;
      loads = (s.loads ∙ no_loads code at none) ∙ sym (no_loads code (at + 1) none_next);
      set = ends_skip code at (SetIn code) w.set.ends (open_triggers-nil code (at + 1) none_next) s.set;
      used = ends_skip code at (UsedIn code) w.used.ends (open_triggers-nil code (at + 1) none_next) s.used;
    }
  where
    still : (k : InsnKind) → k ≢ kinds.Trigger → (t : Trigger) → next_triggers (Some k) t [] ≡ []
    still kinds.Trigger not t = absurd (not refl)
    still kinds.Barrier not t = refl
    still k not t = refl

-- the lists after a word of each kind

abbrev pub EndsShadow : InsnKind → Type 0
EndsShadow k = (k ≡ kinds.Barrier) ⊎ (k ≡ kinds.Turn)

abbrev pub StaysInShadow : InsnKind → Type 0
StaysInShadow k = (k ≡ kinds.Plain) ⊎ (k ≡ kinds.Store) ⊎ (k ≡ kinds.Locked)

pub next-EndsShadow : (k : InsnKind) (access : Option MemAccess) (t : Trigger) (ts : List Trigger) (ls : List Reach)
    → EndsShadow k
    → (next_triggers (Some k) t ts ≡ []) × (next_loads (Some k) access ts ls ≡ [])
next-EndsShadow k access t ts ls e =
    ⊎_elim (λ (q : k ≡ kinds.Barrier). rw q (refl, refl)) (λ (q : k ≡ kinds.Turn). rw q (refl, refl)) e

pub next-StaysInShadow : (k : InsnKind) (access : Option MemAccess) (t : Trigger) (ts : List Trigger) (ls : List Reach)
    → StaysInShadow k
    → (next_triggers (Some k) t ts ≡ ts) × (next_loads (Some k) access ts ls ≡ ls)
next-StaysInShadow k access t ts ls e =
    ⊎_elim (λ (q : k ≡ kinds.Plain). rw q (refl, refl))
    (⊎_elim (λ (q : k ≡ kinds.Store). rw q (refl, refl)) (λ (q : k ≡ kinds.Locked). rw q (refl, refl))) e

pub next-Trigger : (k : InsnKind) (access : Option MemAccess) (t : Trigger) (ts : List Trigger) (ls : List Reach)
    → k ≡ kinds.Trigger
    → (next_triggers (Some k) t ts ≡ ts ++ t ∷ []) × (next_loads (Some k) access ts ls ≡ ls)
next-Trigger k access t ts ls e = rw e (refl, refl)

pub next-Load : (k : InsnKind) (access : Option MemAccess) (a : MemAccess)
    (t : Trigger) (ts : List Trigger) (ls : List Reach)
    → k ≡ kinds.Load → access ≡ Some a → ts ≢ []
    → (next_triggers (Some k) t ts ≡ ts) × (next_loads (Some k) access ts ls ≡ ls ++ reach_of a ∷ [])
next-Load k access a t [] ls e f not = absurd (not refl)
next-Load k access a t (u ∷ us) ls e f not = rw (e, f) (refl, refl)
