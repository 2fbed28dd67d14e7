-- Laws of a view that goes on from another: only the answers that are visible in the rest can be wrong. Assumes nothing.
use Prim.Native.Nat.{ℕ, ◌+◌, ◌<◌}
use native.Mathlib.Omega.{arith}
use mathlib.Core.Path.{◌≡◌, refl, ap, sym, ◌∙◌}
use mathlib.Core.Bool.{Bool, true, false, not, ◌&&◌, false≢true}
use mathlib.Core.List.{List, [], ◌∷◌, ◌++◌}
use mathlib.Core.Option.{Option, none, some}
use lib.ListN.{length, get_or, drop}
use lib.Seq.{get_or-drop}
use Rattle.std.proofs.Common.{length-drop, MatchOption}
use Rattle.std.specs.Prelude as std
use Rattle.std.specs.Bool.{then_some}
use borrow.Author.Tests.{eq-eqb, eqb-true}
use Rattle.history.specs.declared.record.EventNo.{EventNo}
use Rattle.history.specs.declared.record.ProcessNo.{ProcessNo}
use Rattle.criteria.specs.Tests.{or, found_if, mem, place}
use Rattle.criteria.specs.History.{Event, History, process, only, own}
use Rattle.criteria.specs.Replay.{Contents, changed, after_all}
use Rattle.criteria.specs.Check.{right, first_wrong}
use Rattle.criteria.proofs.Lists.{by-test, clash, place_in}
use Rattle.criteria.proofs.Replay.{none-wrong, wrong-none, replays-fewer}
use Rattle.replays.specs.declared.light.LightHistory.{LightHistory}
use Rattle.replays.specs.declared.replay.Visible.{Visible}
use Rattle.replays.specs.declared.replay.Visible.TheVariants.{All, Of, Only}
use Rattle.replays.specs.Replay.{no_light, history_in, is_visible}
use Rattle.replayed_views.specs.Steps.{shows_of, GoesOn, Decides}
use Rattle.replays.proofs.ReplayLaws.{event-at}
use Rattle.replays.proofs.HistoryLaws.{wrong-same}

-- the first of three, either way
pub or_assoc : {A : Type 0} (a b c : Option A) → or a (or b c) ≡ or (or a b) c
or_assoc none b c = refl
or_assoc (some x) b c = refl

module _ (h : History) where
  wrong-append : (vis : ℕ → Bool) (s : Contents) (v w : List ℕ)
      → first_wrong h vis s (v ++ w) ≡ or (first_wrong h vis s v) (first_wrong h vis (after_all h s v) w)
  wrong-append vis s [] w = refl
  wrong-append vis s (x ∷ v) w =
      ap (or (found_if (vis x && not (right h s x)) x)) (wrong-append vis (changed h s x) v w)
      ∙ or_assoc (found_if (vis x && not (right h s x)) x) (first_wrong h vis (changed h s x) v) (first_wrong h vis (after_all h (changed h s x) v) w)

  -- a view that goes on from one with no wrong answer, by events of which only e is visible
  pub goes_on : (vis : ℕ → Bool) (e : ℕ) (s : Contents) (v w : List ℕ) → vis e ≡ true → first_wrong h vis s v ≡ none
      → ((f : ℕ) → mem f w ≡ true → vis f ≡ true → f ≡ e) → first_wrong h vis s (v ++ w) ≡ first_wrong h (only e) s (v ++ w)
  goes_on vis e s v w seen none_yet alone =
      let fewer : (f : ℕ) → only e f ≡ true → vis f ≡ true = λ f t. ap vis (eqb-true f e t) ∙ seen in
      let same : (f : ℕ) → mem f w ≡ true → vis f ≡ only e f =
      λ f t. by-test (vis f) (λ p. p ∙ sym (eq-eqb f e (alone f t p))) (λ p. p ∙ sym (by-test (only e f) (λ q. clash (fewer f q) p) (λ q. q))) in
      let none-too : first_wrong h (only e) s v ≡ none = wrong-none h (only e) s v (replays-fewer h vis (only e) s v fewer (none-wrong h vis s v none_yet)) in
      wrong-append vis s v w
      ∙ ap (λ (r : Option ℕ). or r (first_wrong h vis (after_all h s v) w)) (none_yet ∙ sym none-too)
      ∙ ap (or (first_wrong h (only e) s v)) (wrong-same h vis (only e) (after_all h s v) w same)
      ∙ sym (wrong-append (only e) s v w)

-- ---- the event that decides a view
-- what holds of an event that passes its test holds of the one that is handed back
pub match-then : (P : EventNo → Type 0) (b : Bool) (e : EventNo) {found : std.Option EventNo} → found ≡ then_some b e → (b ≡ true → P e)
    → MatchOption found (Unit {0}) P
match-then P true e is holds = rw is (holds refl)
match-then P false e is holds = rw is tt

pub decides-only : (h : LightHistory) (before : Visible) (v : List ℕ) (f : EventNo) (w : List ℕ) → Decides h before v (Only f) w f.0
unfolding Decides
decides-only h before v f w s _ = refl

-- what it decides
pub decided : (h : LightHistory) (before : Visible) (v : List ℕ) (seen : Visible) (w : List ℕ) (e : ℕ) → Decides h before v seen w e
    → (s : Contents) → first_wrong (history_in h) (is_visible (history_in h) before) s v ≡ none
    → first_wrong (history_in h) (is_visible (history_in h) seen) s w ≡ first_wrong (history_in h) (only e) s w
unfolding Decides
decided h before v seen w e d = d

-- the answers that are visible where those of process p are
shown : (h : History) (who : Visible) (p : ℕ) (s : Contents) (v : List ℕ) → shows_of who p ≡ true → first_wrong h (is_visible h who) s v ≡ first_wrong h (own h p) s v
shown h All p s v t = absurd (false≢true t)
shown h (Of q) p s v t = ap (λ (k : ℕ). first_wrong h (own h k) s v) (eqb-true q.0 p t)
shown h (Only f) p s v t = absurd (false≢true t)

-- a view that goes on from the one before
pub decides-on : (h : LightHistory) (before : Visible) (p : ProcessNo) (a view : List ℕ) (e : ℕ)
    → ((i : ℕ) → i < length view → get_or view i 0 < h.size) → e < h.size → shows_of before p.0 ≡ true → GoesOn h.events a view p.0 e
    → Decides h before a (Of p) view e
unfolding Decides
decides-on h before p a view e entries below shows on s right-yet =
    let its : (x : ℕ) → x < h.size → process (history_in h) x ≡ (get_or h.events x no_light).process.0 =
    λ x l. ap (λ (y : Event). y.process) (event-at h x l) in
    let whole : view ≡ a ++ drop (length a) view = on.begins in
    let inside : (f : ℕ) → mem f (drop (length a) view) ≡ true → f < h.size = λ f t.
    let q = place_in f (drop (length a) view) t in
    let i = length a + place f (drop (length a) view) in
    let z : get_or view i 0 ≡ f = sym (get_or-drop (length a) view (place f (drop (length a) view)) 0) ∙ q.1 in
    rw z at (entries i (omega (arith, q.0, length-drop (length a) view))) in
    ap (first_wrong (history_in h) (own (history_in h) p.0) s) whole
    ∙ goes_on (history_in h) (own (history_in h) p.0) e s a (drop (length a) view) (eq-eqb (process (history_in h) e) p.0 (its e below ∙ on.own))
    (sym (shown (history_in h) before p.0 s a shows) ∙ right-yet)
    (λ f t seen. on.alone f t (sym (its f (inside f t)) ∙ eqb-true (process (history_in h) f) p.0 seen))
    ∙ ap (first_wrong (history_in h) (only e) s) (sym whole)
