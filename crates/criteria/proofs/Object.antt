-- What objects hold: a register or a window the last values written to it, oldest first (document 02, T-04); a channel's last slot is
-- usable, a full channel refuses, and it never holds more than its capacity (document 02, T-02). Assumes nothing.
use mathlib.Core.Path.{◌≡◌, refl, sym, ap, ap₂, subst, ◌∙◌}
use mathlib.Core.Bool.{Bool, true, false, cond, ◌&&◌, false≢true}
use mathlib.Core.List.{List, [], ◌∷◌, ◌++◌, map, append-nil, append_assoc}
use Prim.Native.Nat.{ℕ, zero, suc, ◌+◌, ◌-◌, ◌≤◌, ◌<◌}
use native.Mathlib.Omega.{arith}
use lib.Dec.{eqb}
use lib.ListN.{length, drop, get_or, set, length-append, length-drop, length-map, length-set}
use lib.Seq.{drop-append-le, drop-drop, get_or-set_same, get_or-set_other}
use borrow.Author.Tests.{le-leb, lt-leb, eq-eqb, ne_eqb}
use Rattle.layout.proofs.Cases.{by-lt, by-eq, and-false}
use Rattle.history.specs.declared.record.Kind.{Kind}
use Rattle.history.specs.declared.record.Kind.TheVariants.{Register, Queue, Stack, Window, Channel}
use Rattle.history.specs.declared.record.Op.{Op}
use Rattle.history.specs.declared.record.Op.TheVariants.{Write, Read, Push, Pop, Peek}
use Rattle.history.specs.declared.record.Object.{Object}
use Rattle.history.specs.Record.{no_object}
use Rattle.history.specs.Kinds.{is_channel, is_shelf, has_op}
use Rattle.history.specs.Readable.{is_write}
use Rattle.criteria.specs.Object.{fresh_of, fresh, untop, full, keeps, last_values, after, gives}
use Rattle.criteria.specs.History.{History, event, object}
use Rattle.criteria.specs.Replay.{Contents, start, answered, changed, after_all}
use Rattle.criteria.specs.Written.{written_to, all_written_to}

-- ---- a value behind the others, and the last values of a list
length-behind : (s : List ℕ) (v : ℕ) → length (s ++ (v ∷ [])) ≡ suc (length s)
length-behind s v = let e = length-append s (v ∷ []) in omega (arith, e)

pub length_last : (k : ℕ) (s : List ℕ) → length (last_values k s) ≤ k
length_last k s = let e = length-drop (length s - k) s in omega (arith, e)

-- a list of no more than k values is its own last k
last-all : (k : ℕ) (s : List ℕ) → length s ≤ k → last_values k s ≡ s
last-all k s le = let z : length s - k ≡ 0 = omega (arith, le) in rw z

-- with more values behind a list, its last k are enough to tell the last k of the whole
last-behind : (k : ℕ) (s more : List ℕ) → last_values k (last_values k s ++ more) ≡ last_values k (s ++ more)
last-behind k s more =
    let n = length s - k in
    let q : last_values k s ++ more ≡ drop n (s ++ more) = sym (drop-append-le n s more (omega arith)) in
    let m : n + (length (drop n (s ++ more)) - k) ≡ length (s ++ more) - k =
    omega (arith, length-drop n (s ++ more), length-append s more) in
    ap (last_values k) q ∙ drop-drop (length (drop n (s ++ more)) - k) n (s ++ more) ∙ ap (λ (i : ℕ). drop i (s ++ more)) m

-- ---- a push
module _ (o : Object) (s : List ℕ) where
  not_full : length s < o.width → full o s ≡ false
  not_full lt = ap (λ (b : Bool). is_channel o.kind && b) (lt-leb o.width (length s) lt) ∙ and-false (is_channel o.kind)

  is-full : is_channel o.kind ≡ true → o.width ≤ length s → full o s ≡ true
  is-full c le = ap₂ ◌&&◌ c (le-leb o.width (length s) le)

  -- "the last slot is usable": while there is a slot, a push adds its value and answers nothing
  pub slot-taken : (v : ℕ) → length s < o.width → (after o Push v s ≡ s ++ (v ∷ [])) × (gives o Push v s ≡ [])
  slot-taken v lt = rw (not_full lt) (refl, refl)

  -- "a push onto a full channel changes nothing and answers the pushed value"
  pub push-refused : (v : ℕ) → is_channel o.kind ≡ true → o.width ≤ length s → (after o Push v s ≡ s) × (gives o Push v s ≡ v ∷ [])
  push-refused v c le = rw (is-full c le) (refl, refl)

-- ---- a channel starts empty, and a pop leaves no more than there was
fresh-empty : (k : Kind) (width : ℕ) → is_channel k ≡ true → fresh_of k width ≡ []
fresh-empty Register width c = absurd (false≢true c)
fresh-empty Queue width c = refl
fresh-empty Stack width c = refl
fresh-empty Window width c = refl
fresh-empty Channel width c = refl

popped : (k : Kind) (s : List ℕ) → is_channel k ≡ true → length (untop k s) ≤ length s
popped Register s c = absurd (false≢true c)
popped Queue s c = absurd (false≢true c)
popped Stack s c = absurd (false≢true c)
popped Window s c = absurd (false≢true c)
popped Channel [] c = omega arith
popped Channel (x ∷ s) c = omega arith

-- ---- no op takes a channel over its capacity
kept-within : (k : Kind) (width : ℕ) → 1 ≤ width → keeps k width ≤ width
kept-within Register width one = one
kept-within Queue width one = one
kept-within Stack width one = one
kept-within Window width one = omega arith
kept-within Channel width one = one

module _ (o : Object) (c : is_channel o.kind ≡ true) (one : 1 ≤ o.width) where
  pub op-within : (op : Op) (v : ℕ) (s : List ℕ) → length s ≤ o.width → length (after o op v s) ≤ o.width
  op-within Write v s le =
      let a = length_last (keeps o.kind o.width) (s ++ (v ∷ [])) in
      let b = kept-within o.kind o.width one in
      omega (arith, a, b)
  op-within Read v s le = le
  op-within Push v s le =
      by-lt (length s) o.width
      (λ lt. rw (not_full o s lt) (let e = length-behind s v in omega (arith, e, lt)))
      (λ more. rw (is-full o s c more) le)
  op-within Pop v s le = let p = popped o.kind s c in omega (arith, p, le)
  op-within Peek v s le = le

-- of a list with another element at i, what stands at j is no longer than m
at_set : (s : Contents) (i : ℕ) (x : List ℕ) (j m : ℕ) → (i ≡ j → length x ≤ m) → length (get_or s j []) ≤ m → length (get_or (set s i x) j []) ≤ m
at_set [] i x j m h g = g
at_set (y ∷ s) zero x zero m h g = h refl
at_set (y ∷ s) zero x (suc j) m h g = g
at_set (y ∷ s) (suc i) x zero m h g = g
at_set (y ∷ s) (suc i) x (suc j) m h g = at_set s i x j m (λ e. h (ap suc e)) g

start-empty : (os : List Object) (o : ℕ) → is_channel (get_or os o no_object).kind ≡ true → get_or (map fresh os) o [] ≡ []
start-empty [] o c = refl
start-empty (x ∷ os) zero c = fresh-empty x.kind x.width c
start-empty (x ∷ os) (suc o) c = start-empty os o c

-- in a replay of any events, a channel never holds more values than its capacity
module _ (h : History) (o : ℕ) (c : is_channel (object h o).kind ≡ true) (one : 1 ≤ (object h o).width) where
  turn-within : (s : Contents) (e : ℕ) → length (get_or s o []) ≤ (object h o).width → length (get_or (changed h s e) o []) ≤ (object h o).width
  turn-within s e le =
      at_set s (event h e).object (after (object h (event h e).object) (event h e).op (event h e).value (get_or s (event h e).object [])) o (object h o).width
      (λ q. subst (λ (k : ℕ). length (after (object h k) (event h e).op (event h e).value (get_or s k [])) ≤ (object h o).width) (sym q) (op-within (object h o) c one (event h e).op (event h e).value (get_or s o []) le))
      le

  all-within : (s : Contents) (view : List ℕ) → length (get_or s o []) ≤ (object h o).width → length (get_or (after_all h s view) o []) ≤ (object h o).width
  all-within s [] le = le
  all-within s (e ∷ view) le = all-within (changed h s e) view (turn-within s e le)

  pub within-capacity : (view : List ℕ) → length (get_or (after_all h (start h) view) o []) ≤ (object h o).width
  within-capacity view = all-within (start h) view (rw (start-empty h.objects o c) (omega arith))

-- ---- in a replay of any events, a register or a window holds the last values written to it, oldest first
start-at : (os : List Object) (o : ℕ) → o < length os → get_or (map fresh os) o [] ≡ fresh (get_or os o no_object)
start-at [] o l = absurd (omega (arith, l))
start-at (x ∷ os) zero l = refl
start-at (x ∷ os) (suc o) l = start-at os o (omega (arith, l))

-- no object starts with more values than it keeps
fresh_kept : (k : Kind) (width : ℕ) → length (fresh_of k width) ≤ keeps k width
fresh_kept Register width = omega arith
fresh_kept Queue width = omega arith
fresh_kept Stack width = omega arith
fresh_kept Window width = omega arith
fresh_kept Channel width = omega arith

-- what a write or a read makes of the last values of a list is the last values of that list and what it writes
op-last : (o : Object) (op : Op) (v : ℕ) (s : List ℕ) → has_op o.kind op ≡ true → is_shelf o.kind ≡ false
    → after o op v (last_values (keeps o.kind o.width) s) ≡ last_values (keeps o.kind o.width) (s ++ cond (is_write op) (v ∷ []) [])
op-last o Write v s has n = last-behind (keeps o.kind o.width) s (v ∷ [])
op-last o Read v s has n = ap (last_values (keeps o.kind o.width)) (sym (append-nil s))
op-last o Push v s has n = absurd (false≢true (rw n at has))
op-last o Pop v s has n = absurd (false≢true (rw n at has))
op-last o Peek v s has n = absurd (false≢true (rw n at has))

-- the object is declared, has write and read, and has no other op done to it, as in every history that was read
module _ (h : History) (o : ℕ) (declared : o < length h.objects) (plain : is_shelf (object h o).kind ≡ false)
    (ops : (e : ℕ) → (event h e).object ≡ o → has_op (object h o).kind (event h e).op ≡ true) where
  abbrev kept : ℕ
  kept = keeps (object h o).kind (object h o).width

  own_turn : (s : Contents) (p : List ℕ) (op : Op) (v : ℕ) → o < length s → has_op (object h o).kind op ≡ true → get_or s o [] ≡ last_values kept p
      → get_or (set s o (after (object h o) op v (get_or s o []))) o [] ≡ last_values kept (p ++ cond (eqb o o && is_write op) (v ∷ []) [])
  own_turn s p op v l has q =
      rw (eq-eqb o o refl)
      (get_or-set_same s o (after (object h o) op v (get_or s o [])) [] l ∙ ap (after (object h o) op v) q ∙ op-last (object h o) op v p has plain)

  turn_last : (s : Contents) (p : List ℕ) (e : ℕ) → o < length s → get_or s o [] ≡ last_values kept p
      → get_or (changed h s e) o [] ≡ last_values kept (p ++ written_to h o e)
  turn_last s p e l q =
      by-eq (event h e).object o
      (λ i.
      subst
      (λ (k : ℕ).
      get_or (set s k (after (object h k) (event h e).op (event h e).value (get_or s k []))) o []
      ≡ last_values kept (p ++ cond (eqb k o && is_write (event h e).op) ((event h e).value ∷ []) []))
      (sym i) (own_turn s p (event h e).op (event h e).value l (ops e i) q))
      (λ d.
      rw (ne_eqb (event h e).object o d)
      (get_or-set_other s (event h e).object o _ [] (λ i. d (sym i)) ∙ q ∙ ap (last_values kept) (sym (append-nil p))))

  all-last : (s : Contents) (p view : List ℕ) → o < length s → get_or s o [] ≡ last_values kept p
      → get_or (after_all h s view) o [] ≡ last_values kept (p ++ all_written_to h o view)
  all-last s p [] l q = q ∙ ap (last_values kept) (sym (append-nil p))
  all-last s p (e ∷ view) l q =
      all-last (changed h s e) (p ++ written_to h o e) view (rw (length-set s (event h e).object _) l) (turn_last s p e l q)
      ∙ ap (last_values kept) (append_assoc p (written_to h o e) (all_written_to h o view))

  -- it holds the last of the values that it starts with and those written to it
  pub holds-last : (view : List ℕ) → get_or (after_all h (start h) view) o [] ≡ last_values kept (fresh (object h o) ++ all_written_to h o view)
  holds-last view =
      all-last (start h) (fresh (object h o)) view (rw (length-map h.objects fresh) declared)
      (start-at h.objects o declared ∙ sym (last-all kept (fresh (object h o)) (fresh_kept (object h o).kind (object h o).width)))

-- "a read answers the last k values written, or all of them while there are fewer, oldest first"
module _ (h : History) (o : ℕ) (declared : o < length h.objects) (window : (object h o).kind ≡ Window)
    (ops : (e : ℕ) → (event h e).object ≡ o → has_op (object h o).kind (event h e).op ≡ true) where
  pub window-holds : (view : List ℕ) → get_or (after_all h (start h) view) o [] ≡ last_values (object h o).width (all_written_to h o view)
  window-holds view =
      subst
      (λ (k : Kind). get_or (after_all h (start h) view) o [] ≡ last_values (keeps k (object h o).width) (fresh_of k (object h o).width ++ all_written_to h o view))
      window (holds-last h o declared (ap is_shelf window) ops view)

  pub window-answers : (view : List ℕ) (e : ℕ) → (event h e).object ≡ o → (event h e).op ≡ Read
      → answered h (after_all h (start h) view) e ≡ last_values (object h o).width (all_written_to h o view)
  window-answers view e i read = rw (read, i) (window-holds view)
