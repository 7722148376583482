-- A barrier breaks nothing, and ends every shadow.
use Rattle.std.proofs.Common.{◌≡◌, ◌+◌, ℕ, Some, None, List, [], sym, ◌∙◌, inr, refl}
use Rattle.alpha_table.specs.declared.columns.InsnKind.TheVariants as kinds
use Rattle.alpha_shadow.specs.declared.broken.Condition.TheVariants.{ZeroDestination, SourceLost, SameDestination}
use Rattle.alpha_shadow.specs.declared.broken.Condition.TheVariants.{WildBase, LoadThenStore, Locked, Turn, Long}
use Rattle.alpha_shadow.specs.declared.window.Window.{Window}
use Rattle.alpha_shadow.specs.Code.{kind_at, SetIn}
use Rattle.alpha_shadow.specs.Columns.{destination_of}
use Rattle.alpha_shadow.specs.Window.{Summarizes, UsedIn, open_triggers}
use Rattle.alpha_shadow.specs.Place.{IsLeastUpTo}
use Rattle.alpha_shadow.proofs.WordColumns.{kind_within, no_access, no_set}
use Rattle.alpha_shadow.proofs.BreakingTriggers.{ZeroDestination-missing, SourceLost-no_set, SameDestination-missing}
use Rattle.alpha_shadow.proofs.BreakingTriggers.{WildBase-no_access, LoadThenStore-no_store}
use Rattle.alpha_shadow.proofs.BreakingTriggers.{locked_missing}
use Rattle.alpha_shadow.proofs.BreakingTriggers.{turn_missing}
use Rattle.alpha_shadow.proofs.LongShadows.{none_long}
use Rattle.alpha_shadow.proofs.LeastBrokenSteps.{IsLeastUpTo-zero, IsLeastUpTo-skip, IsLeastUpTo-open_skip}
use Rattle.alpha_shadow.proofs.Shadows.{open_triggers_next, open_triggers-nil}
use Rattle.alpha_shadow.proofs.OpenLoads.{no_loads}
use Rattle.alpha_shadow.proofs.LastPlaces.{ends_skip}

pub IsLeastUpTo-barrier : (code : List ℕ) (at : ℕ) → kind_at code at ≡ Some kinds.Barrier → IsLeastUpTo code at 9 None
IsLeastUpTo-barrier code at barrier =
    let access = no_access code at kinds.Barrier barrier (inr (inr (inr refl))) in
    let c1 =
    IsLeastUpTo-skip code at 0 ZeroDestination None refl (ZeroDestination-missing code at (λ q. let t = q.0 in cc))
    (IsLeastUpTo-zero code at) in
    let c2 = IsLeastUpTo-skip code at 1 SourceLost None refl (SourceLost-no_set code at (no_set code at barrier)) c1 in
    let c3 = IsLeastUpTo-skip code at 2 SameDestination None refl (SameDestination-missing code at (λ q. cc)) c2 in
    let c4 = IsLeastUpTo-skip code at 3 WildBase None refl (WildBase-no_access code at access) c3 in
    let c5 = IsLeastUpTo-skip code at 4 LoadThenStore None refl (LoadThenStore-no_store code at (λ q. q.1 access)) c4 in
    let c6 = IsLeastUpTo-skip code at 5 Locked None refl (locked_missing code at (λ q. cc)) c5 in
    let c7 = IsLeastUpTo-skip code at 6 Turn None refl (turn_missing code at (λ q. cc)) c6 in
    IsLeastUpTo-skip code at 8 Long None refl (none_long code at (inr barrier))
    (IsLeastUpTo-open_skip code at None (kind_within code at kinds.Barrier barrier) c7)

-- a window behind a barrier, which leaves nothing in it
pub Summarizes-behind_barrier : (code : List ℕ) (at : ℕ) (w after : Window) → Summarizes code w at
    → kind_at code at ≡ Some kinds.Barrier
    → after.triggers.items ≡ [] → after.loads.items ≡ [] → after.set ≡ w.set → after.used ≡ w.used
    → Summarizes code after (at + 1)
Summarizes-behind_barrier code at w after s k t l set used =
    let none : open_triggers code (at + 1) ≡ [] =
    open_triggers_next code at kinds.Barrier (destination_of code at) k refl in
    let nothing = open_triggers-nil code (at + 1) none in
    record {
      triggers = t ∙ sym none;
      loads = l ∙ sym (no_loads code (at + 1) none);
      set = rw set (ends_skip code at (SetIn code) w.set.ends nothing s.set);
      used = rw used (ends_skip code at (UsedIn code) w.used.ends nothing s.used);
    }
