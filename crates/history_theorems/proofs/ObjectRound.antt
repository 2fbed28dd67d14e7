-- An object's line reads as its object, and a line that reads as an object is that object's line. Assumes nothing.
use Prim.Native.Nat.{ℕ, ◌<◌}
use native.Mathlib.Omega.{arith}
use mathlib.Core.Path.{◌≡◌, refl, sym, ap, ◌∙◌}
use mathlib.Core.Bool.{Bool, true, false, cond, not, ◌&&◌, ◌||◌}
use mathlib.Core.List.{List, [], ◌∷◌}
use lib.ListN.{length, get_or}
use lib.Dec.{eqb, leb, ltb}
use borrow.Author.Tests.{lt-ltb, ltb-true, eq-eqb, eqb-true, not-true}
use Rattle.layout.specs.Split.{split, join, on_first}
use Rattle.layout.specs.Word.{same, dash, register_word, queue_word, stack_word, window_word, channel_word, event_heading}
use Rattle.layout.specs.Number.{is_digit, value, spell}
use Rattle.layout.proofs.Cases.{by_bool, by-eq, and_left, and_right}
use Rattle.layout.proofs.SplitLaws.{without, all_without, split-join, join-split, join-without}
use Rattle.layout.proofs.WordLaws.{same_true, same_false, same_refl}
use Rattle.layout.proofs.NumberLaws.{digit_low}
use Rattle.layout.proofs.SpellLaws.{value-spell, spell-without}
use Rattle.history.specs.declared.record.Kind.{Kind}
use Rattle.history.specs.declared.record.Kind.TheVariants.{Register, Queue, Stack, Window, Channel}
use Rattle.history.specs.declared.record.Object.{Object}
use Rattle.history.specs.Kinds.{kind_word, is_kind, kind_of, has_width, width_limit}
use Rattle.history.specs.Faults.{ObjectRead, is_optional, optional, object_layout, object_limits, object_fits, object_fault, object_three, object_line}
use Rattle.history.specs.HistoryText.{object_text}
use Rattle.history.specs.Readable.{good_object}
use Rattle.history.proofs.FaultLaws.{InOrder, fault-zero}
use Rattle.history.proofs.ObjectLaws.{three-order, three-faulty, object-count, object-three}
use Rattle.event_reader.proofs.LineRound.{spell-not-dash, option-without, option-layout, option-fits, option-value, option-says}

-- ---- the words of the kinds
kind-word : (k : Kind) → kind_of (kind_word k) ≡ k
unfolding kind_word kind_of same
kind-word Register = refl
kind-word Queue = refl
kind-word Stack = refl
kind-word Window = refl
kind-word Channel = refl

kind-known : (k : Kind) → is_kind (kind_word k) ≡ true
unfolding kind_word is_kind same
kind-known Register = refl
kind-known Queue = refl
kind-known Stack = refl
kind-known Window = refl
kind-known Channel = refl

-- they hold no space and no line feed
kind-without : (k : Kind) → (without 32 (kind_word k) ≡ true) × (without 10 (kind_word k) ≡ true)
unfolding kind_word without
kind-without Register = (refl, refl)
kind-without Queue = (refl, refl)
kind-without Stack = (refl, refl)
kind-without Window = (refl, refl)
kind-without Channel = (refl, refl)

word-kind : (f : List ℕ) → is_kind f ≡ true → kind_word (kind_of f) ≡ f
unfolding is_kind kind_of kind_word
word-kind f e =
    by_bool (same f queue_word)
    (λ q. rw q (sym (same_true f queue_word q)))
    (λ q. by_bool (same f stack_word)
    (λ s. rw (q, s) (sym (same_true f stack_word s)))
    (λ s. by_bool (same f window_word)
    (λ w. rw (q, s, w) (sym (same_true f window_word w)))
    (λ w. by_bool (same f channel_word)
    (λ c. rw (q, s, w, c) (sym (same_true f channel_word c)))
    (λ c. rw (q, s, w, c) (sym (same_true f register_word (rw (q, s, w, c) at e)))))))

-- ---- the fields of an object's line
abbrev fields_of : ℕ → Object → List (List ℕ)
fields_of own o = spell own ∷ kind_word o.kind ∷ cond (has_width o.kind) (spell o.width) dash ∷ []

fields-without : (b : ℕ) → is_digit b ≡ false → (b ≡ 45 → ⊥) → (own : ℕ) (o : Object) → without b (kind_word o.kind) ≡ true
    → all_without b (fields_of own o) ≡ true
unfolding all_without
fields-without b d m own o k =
    rw (spell-without b own d, k, option-without b d m (has_width o.kind) o.width)

text-fields : (own : ℕ) (o : Object) → split 32 (object_text own o) ≡ fields_of own o
unfolding object_text
text-fields own o =
    split-join 32 (spell own) (kind_word o.kind ∷ cond (has_width o.kind) (spell o.width) dash ∷ [])
    (fields-without 32 (digit_low 32 (omega arith)) (λ q. omega arith) own o (kind-without o.kind).0)

-- the line holds no line feed
pub object-clean : (own : ℕ) (o : Object) → without 10 (object_text own o) ≡ true
unfolding object_text
object-clean own o =
    join-without 10 32 (λ q. omega arith) (fields_of own o)
    (fields-without 10 (digit_low 10 (omega arith)) (λ q. omega arith) own o (kind-without o.kind).1)

-- it is not the heading of the events, which has six fields
heading-fields : length (split 32 event_heading) ≡ 6
unfolding split on_first
heading-fields = refl

pub object-not-heading : (own : ℕ) (o : Object) → same (object_text own o) event_heading ≡ false
object-not-heading own o =
    same_false (object_text own o) event_heading
    (λ e.
    let q : length (split 32 (object_text own o)) ≡ 3 = ap length (text-fields own o) in
    let z : length (split 32 (object_text own o)) ≡ 6 = ap (λ (l : List ℕ). length (split 32 l)) e ∙ heading-fields in
    omega arith)

-- ---- written and read back
layout-text : (own : ℕ) (o : Object)
    → object_layout own (spell own) (kind_word o.kind) (cond (has_width o.kind) (spell o.width) dash) ≡ true
unfolding object_layout
layout-text own o = rw (same_refl (spell own), kind-known o.kind) (option-layout (has_width o.kind) o.width)

limits-text : (own n : ℕ) (k : Kind) (t : Bool) → own < 16 → cond t (ltb 0 n && leb n (width_limit k)) (eqb n 0) ≡ true
    → object_limits own (kind_word k) (cond t (spell n) dash) ≡ true
unfolding object_limits
limits-text own n k true h g = rw (lt-ltb own 16 h, spell-not-dash n, value-spell n, kind-word k) g
limits-text own n k false h g = rw (lt-ltb own 16 h, same_refl dash)

fits-text : (k : Kind) (n : ℕ) → object_fits (kind_word k) (cond (has_width k) (spell n) dash) ≡ true
unfolding object_fits
fits-text k n = rw (kind-word k) (option-fits (has_width k) n)

width-text : (t : Bool) (n m : ℕ) → cond t (ltb 0 n && leb n m) (eqb n 0) ≡ true → optional (cond t (spell n) dash) ≡ n
width-text true n m g = option-value true n
width-text false n m g = option-value false n ∙ sym (eqb-true n 0 g)

three-text : (own : ℕ) (o : Object) → own < 16 → good_object o ≡ true
    → object_three own (spell own) (kind_word o.kind) (cond (has_width o.kind) (spell o.width) dash)
    ≡ record { fault = 0; object = o }
unfolding object_three object_fault good_object
three-text own o h g =
    let z = fault-zero (record {
      layout = layout-text own o;
      limits = limits-text own o.width o.kind (has_width o.kind) h g;
      fits = fits-text o.kind o.width;
      long = refl;
    }) in
    rw (eq-eqb _ 0 z, kind-word o.kind, width-text (has_width o.kind) o.width (width_limit o.kind) g)

-- the line of a good object reads as that object
pub object-written : (own : ℕ) (o : Object) → own < 16 → good_object o ≡ true
    → object_line own (object_text own o) ≡ record { fault = 0; object = o }
object-written own o h g = object-three own (object_text own o) (fields_of own o) (text-fields own o) refl ∙ three-text own o h g

-- ---- read and written back
three : (l : List (List ℕ)) → length l ≡ 3 → l ≡ get_or l 0 [] ∷ get_or l 1 [] ∷ get_or l 2 [] ∷ []
three [] e = absurd (omega arith)
three (a ∷ []) e = absurd (omega arith)
three (a ∷ b ∷ []) e = absurd (omega arith)
three (a ∷ b ∷ c ∷ []) e = refl
three (a ∷ b ∷ c ∷ d ∷ l) e = absurd (omega arith)

-- a width in its limits, on a kind that has one and on nothing else, is one of a good object
good-by : (t : Bool) (w : List ℕ) (m : ℕ) → same w dash || (ltb 0 (value w) && leb (value w) m) ≡ true
    → cond t (not (same w dash)) (same w dash) ≡ true
    → cond t (ltb 0 (optional w) && leb (optional w) m) (eqb (optional w) 0) ≡ true
unfolding optional
good-by true w m l f = let d = not-true (same w dash) f in rw d (rw d at l)
good-by false w m l f = rw f

module _ (own : ℕ) (a k w : List ℕ) (i : InOrder (object_layout own a k w) (object_limits own k w) (object_fits k w) true) where
  abbrev read : Object
  read = record { kind = kind_of k; width = optional w }

  read-numbered : own < 16
  unfolding object_limits
  read-numbered =
      ltb-true own 16 (and_left (ltb own 16) (same w dash || (ltb 0 (value w) && leb (value w) (width_limit (kind_of k)))) i.limits)

  read-good : good_object read ≡ true
  unfolding good_object object_limits object_fits
  read-good =
      good-by (has_width (kind_of k)) w (width_limit (kind_of k))
      (and_right (ltb own 16) (same w dash || (ltb 0 (value w) && leb (value w) (width_limit (kind_of k)))) i.limits) i.fits

  read-fields : fields_of own read ≡ a ∷ k ∷ w ∷ []
  unfolding object_layout object_fits
  read-fields =
      let l = and_left (same a (spell own) && is_kind k) (is_optional w) i.layout in
      let p : spell own ≡ a = sym (same_true a (spell own) (and_left (same a (spell own)) (is_kind k) l)) in
      let q : kind_word (kind_of k) ≡ k = word-kind k (and_right (same a (spell own)) (is_kind k) l) in
      let r : cond (has_width (kind_of k)) (spell (optional w)) dash ≡ w =
      option-says (has_width (kind_of k)) w (and_right (same a (spell own) && is_kind k) (is_optional w) i.layout) i.fits in
      rw (p, q, r)

-- a line without a fault has three fields without a fault, and says what they say
record Three (own : ℕ) (line : List ℕ) : Type 0 where
  first : List ℕ
  second : List ℕ
  third : List ℕ
  cut : split 32 line ≡ first ∷ second ∷ third ∷ []
  order : InOrder (object_layout own first second third) (object_limits own second third) (object_fits second third) true
  object : (object_line own line).object ≡ record { kind = kind_of second; width = optional third }

three_said : (own : ℕ) (a k w : List ℕ) → object_fault own a k w ≡ 0
    → (object_three own a k w).object ≡ record { kind = kind_of k; width = optional w }
unfolding object_three
three_said own a k w z = rw (eq-eqb (object_fault own a k w) 0 z)

three-zero : (own : ℕ) (a k w : List ℕ) → (object_three own a k w).fault ≡ 0 → object_fault own a k w ≡ 0
three-zero own a k w e =
    by-eq (object_fault own a k w) 0 (λ z. z)
    (λ n. absurd (n (sym (ap (λ (r : ObjectRead). r.fault) (three-faulty own a k w n)) ∙ e)))

three-of : (own : ℕ) (line : List ℕ) → (object_line own line).fault ≡ 0 → Three own line
three-of own line e =
    let fs : List (List ℕ) = split 32 line in
    by-eq (length fs) 3
    (λ n.
    let a : List ℕ = get_or fs 0 [] in
    let k : List ℕ = get_or fs 1 [] in
    let w : List ℕ = get_or fs 2 [] in
    let q : object_line own line ≡ object_three own a k w = object-three own line fs refl n in
    let z : object_fault own a k w ≡ 0 = three-zero own a k w (sym (ap (λ (r : ObjectRead). r.fault) q) ∙ e) in
    record {
      first = a;
      second = k;
      third = w;
      cut = three fs n;
      order = three-order own a k w z;
      object = ap (λ (r : ObjectRead). r.object) q ∙ three_said own a k w z;
    })
    (λ n.
    let t : ◌≡◌ {A = ℕ} 2 0 = sym (ap (λ (r : ObjectRead). r.fault) (object-count own line fs refl n)) ∙ e in
    absurd (omega arith))

-- what a line that reads as an object says
pub record ReadsObject (own : ℕ) (line : List ℕ) : Type 0 where
  pub numbered : own < 16
  pub good : good_object (object_line own line).object ≡ true
  pub says : object_text own (object_line own line).object ≡ line

read-says : (own : ℕ) (line : List ℕ) (t : Three own line) → object_text own (object_line own line).object ≡ line
unfolding object_text
read-says own line t =
    ap (λ (o : Object). join 32 (fields_of own o)) t.object
    ∙ ap (join 32) (read-fields own t.first t.second t.third t.order ∙ sym t.cut)
    ∙ join-split 32 line

pub object-read : (own : ℕ) (line : List ℕ) → (object_line own line).fault ≡ 0 → ReadsObject own line
object-read own line e =
    let t = three-of own line e in
    record {
      numbered = read-numbered own t.first t.second t.third t.order;
      good = ap good_object t.object ∙ read-good own t.first t.second t.third t.order;
      says = read-says own line t;
    }
