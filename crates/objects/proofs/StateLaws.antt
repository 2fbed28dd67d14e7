-- Laws of what a state holds, and of one op on it. Assumes nothing.
use Prim.Native.Nat.{ℕ, zero, suc, ◌+◌, ◌-◌, ◌≤◌, ◌<◌, min}
use native.Mathlib.Nat.{not-suc-le-zero, le_of_suc-le-suc}
use native.Mathlib.Numerals.{add-one}
use native.Mathlib.Omega.{arith}
use mathlib.Core.Path.{◌≡◌, refl, ap, sym, subst, ◌∙◌}
use mathlib.Core.Bool.{Bool, true, false, cond, ◌&&◌, false≢true}
use mathlib.Core.List.{List, [], ◌∷◌, ◌++◌, map, map-append}
use lib.ListN.{length, take, drop, get_or, set, replicate, length-map, length-append, length-set}
use lib.Dec.{leb}
use borrow.Author.Tests.{lt-leb, leb-true, leb-false}
use lib.Seq.{slice, slice_empty, slice-cons, length-slice, take-suc, take-suc-set, drop-append-le, drop-drop, length-take-le, take_at, drop_at, take_all}
use Rattle.std.proofs.lemmas.List.{drop-take}
use Rattle.history.specs.declared.record.Kind.{Kind}
use Rattle.history.specs.declared.record.Kind.TheVariants.{Register, Queue, Stack, Window, Channel}
use Rattle.history.specs.declared.record.Op.{Op}
use Rattle.history.specs.declared.record.Op.TheVariants.{Write, Read, Push, Pop, Peek}
use Rattle.history.specs.declared.record.Object.{Object}
use Rattle.history.specs.Kinds.{is_channel, has_op}
use Rattle.criteria.specs.Object.{fresh_of, fresh, full, keeps, last_values, after, gives, top, untop}
use Rattle.objects.specs.State.{value_in, contents_of, given_of, is_stack, limit_for, limit_of, Fresh, Suits, Changed, Answered}
use Rattle.objects.specs.Steps.State.{Names, Shows}
use Rattle.objects.specs.declared.state.State.{State}
use Rattle.objects.specs.declared.state.Given.{Given}

-- ---- a map over what an op makes of a list and what it answers
module _ (f : ℕ → ℕ) where
  map-take : (n : ℕ) (l : List ℕ) → map f (take n l) ≡ take n (map f l)
  map-take zero l = refl
  map-take (suc n) [] = refl
  map-take (suc n) (x ∷ xs) = ap (λ (t : List ℕ). f x ∷ t) (map-take n xs)

  map-drop : (n : ℕ) (l : List ℕ) → map f (drop n l) ≡ drop n (map f l)
  map-drop zero l = refl
  map-drop (suc n) [] = refl
  map-drop (suc n) (x ∷ xs) = map-drop n xs

  map-replicate : (n x : ℕ) → map f (replicate n x) ≡ replicate n (f x)
  map-replicate zero x = refl
  map-replicate (suc n) x = ap (λ (t : List ℕ). f x ∷ t) (map-replicate n x)

  map-top : (k : Kind) (l : List ℕ) → map f (top k l) ≡ top k (map f l)
  map-top Register l = map-take 1 l
  map-top Queue l = map-take 1 l
  map-top Stack l = map-drop (length l - 1) l ∙ ap (λ (n : ℕ). drop (n - 1) (map f l)) (sym (length-map l f))
  map-top Window l = map-take 1 l
  map-top Channel l = map-take 1 l

  map-untop : (k : Kind) (l : List ℕ) → map f (untop k l) ≡ untop k (map f l)
  map-untop Register l = map-drop 1 l
  map-untop Queue l = map-drop 1 l
  map-untop Stack l = map-take (length l - 1) l ∙ ap (λ (n : ℕ). take (n - 1) (map f l)) (sym (length-map l f))
  map-untop Window l = map-drop 1 l
  map-untop Channel l = map-drop 1 l

  map-full : (o : Object) (l : List ℕ) → full o (map f l) ≡ full o l
  map-full o l = ap (λ (n : ℕ). is_channel o.kind && leb o.width n) (length-map l f)

  map_last : (k : ℕ) (l : List ℕ) → map f (last_values k l) ≡ last_values k (map f l)
  map_last k l = map-drop (length l - k) l ∙ ap (λ (n : ℕ). drop (n - k) (map f l)) (sym (length-map l f))

  map-put : (b : Bool) (n : ℕ) (l : List ℕ) → map f (cond b l (l ++ (n ∷ []))) ≡ cond b (map f l) (map f l ++ (f n ∷ []))
  map-put true n l = refl
  map-put false n l = map-append f l (n ∷ [])

  map_back : (b : Bool) (n : ℕ) → map f (cond b (n ∷ []) []) ≡ cond b (f n ∷ []) []
  map_back true n = refl
  map_back false n = refl

  map-after : (o : Object) (op : Op) (n : ℕ) (l : List ℕ) → map f (after o op n l) ≡ after o op (f n) (map f l)
  map-after o Write n l = map_last (keeps o.kind o.width) (l ++ (n ∷ [])) ∙ ap (last_values (keeps o.kind o.width)) (map-append f l (n ∷ []))
  map-after o Read n l = refl
  map-after o Push n l =
      map-put (full o l) n l ∙ ap (λ (b : Bool). cond b (map f l) (map f l ++ (f n ∷ []))) (sym (map-full o l))
  map-after o Pop n l = map-untop o.kind l
  map-after o Peek n l = refl

-- ---- the end that pop takes
top-is : (k : Kind) (l : List ℕ) → top k l ≡ cond (is_stack k) (drop (length l - 1) l) (take 1 l)
top-is Register l = refl
top-is Queue l = refl
top-is Stack l = refl
top-is Window l = refl
top-is Channel l = refl

untop-is : (k : Kind) (l : List ℕ) → untop k l ≡ cond (is_stack k) (take (length l - 1) l) (drop 1 l)
untop-is Register l = refl
untop-is Queue l = refl
untop-is Stack l = refl
untop-is Window l = refl
untop-is Channel l = refl

top-none : (k : Kind) → top k [] ≡ []
top-none Register = refl
top-none Queue = refl
top-none Stack = refl
top-none Window = refl
top-none Channel = refl

untop-none : (k : Kind) → untop k [] ≡ []
untop-none Register = refl
untop-none Queue = refl
untop-none Stack = refl
untop-none Window = refl
untop-none Channel = refl

-- ---- the part of a list between two ends
slice-push : (l : List ℕ) (h t v : ℕ) → h ≤ t → t < length l → slice h (t + 1) (set l t v) ≡ slice h t l ++ (v ∷ [])
slice-push l h t v le lt =
    let e : length (take t l) ≡ t = length-take-le t l (omega arith) in
    rw (add-one, take-suc-set l t v) (drop-append-le h (take t l) (v ∷ []) (omega arith))

slice_snoc : (l : List ℕ) (h k : ℕ) → h ≤ k → k < length l → slice h (k + 1) l ≡ slice h k l ++ (get_or l k 0 ∷ [])
slice_snoc l h k le lt =
    let e : length (take k l) ≡ k = length-take-le k l (omega arith) in
    rw (add-one, take-suc l k 0) (drop-append-le h (take k l) (get_or l k 0 ∷ []) (omega arith))

slice-tail : (l : List ℕ) (h t : ℕ) → slice (h + 1) t l ≡ drop 1 (slice h t l)
slice-tail l h t = sym (drop-drop 1 h (take t l))

snoc-init : (q : List ℕ) (x : ℕ) → take (length (q ++ (x ∷ [])) - 1) (q ++ (x ∷ [])) ≡ q
snoc-init q x = take_at q (x ∷ []) (length (q ++ (x ∷ [])) - 1) (omega (arith, length-append q (x ∷ [])))

snoc-last : (q : List ℕ) (x : ℕ) → drop (length (q ++ (x ∷ [])) - 1) (q ++ (x ∷ [])) ≡ x ∷ []
snoc-last q x = drop_at q (x ∷ []) (length (q ++ (x ∷ [])) - 1) (omega (arith, length-append q (x ∷ [])))

-- ---- the start
take-replicate : (t n x : ℕ) → t ≤ n → take t (replicate n x) ≡ replicate t x
take-replicate zero n x h = refl
take-replicate (suc t) zero x h = absurd (not-suc-le-zero h)
take-replicate (suc t) (suc n) x h = ap (λ (l : List ℕ). x ∷ l) (take-replicate t n x (le_of_suc-le-suc h))

-- every value of the start is 0
zeros : (o : Object) → replicate (length (fresh o)) 0 ≡ fresh o
zeros o = by-kind o.kind
  where
    by-kind : (k : Kind) → replicate (length (fresh_of k o.width)) 0 ≡ fresh_of k o.width
    by-kind Register = refl
    by-kind Queue = refl
    by-kind Stack = refl
    by-kind Window = refl
    by-kind Channel = refl

pub fresh-law : (o : Object) (r : State) → r.newest ≡ is_stack o.kind → r.limit ≡ limit_of o → r.head ≡ 0 → r.tail ≡ length (fresh o) → r.tail ≤ 1
    → r.numbers ≡ replicate 65 64 → Fresh o r
unfolding contents_of
fresh-law o r newest limit head tail few numbers = record {
  newest = newest;
  limit = limit;
  head = head;
  tail = few;
  contents = λ vs z.
      rw (head, tail, numbers, take-replicate (length (fresh o)) 65 64 (omega (arith, tail, few)), map-replicate (value_in vs) (length (fresh o)) 64, z, zeros o);
}

-- ---- one op on a state, said of the numbers it holds
abbrev held : State → List ℕ
held s = slice s.head s.tail s.numbers

changed-law : (s r : State) (op : Op) (number : ℕ) → r.newest ≡ s.newest → r.limit ≡ s.limit → r.head ≤ r.tail → r.tail ≤ s.tail + 1
    → ((o : Object) → Suits o op s → held r ≡ after o op number (held s)) → Changed s op number r
unfolding contents_of
changed-law s r op number e m h t g = record {
  newest = e;
  limit = m;
  ends = h;
  room = t;
  contents = λ vs o k. ap (map (value_in vs)) (g o k) ∙ map-after (value_in vs) o op number (held s);
}

-- A state at two ends.
abbrev between : State → List ℕ → (h t : ℕ) → h ≤ t → t ≤ 65 → State
between s l h t ordered room = record { numbers = l; head = h; tail = t; newest = s.newest; limit = s.limit; ordered = ordered; room = room }

-- a register and a window keep as many values as they hold at most
keeps-by : (k : Kind) (w : ℕ) → has_op k Write ≡ true → keeps k w ≡ limit_for k w
keeps-by Register w h = refl
keeps-by Queue w h = absurd (false≢true h)
keeps-by Stack w h = absurd (false≢true h)
keeps-by Window w h = refl
keeps-by Channel w h = absurd (false≢true h)

-- ---- whether the object holds as many values as it can
full_by : (k : Kind) (w n : ℕ) → has_op k Push ≡ true → n ≤ 65 → is_channel k && leb w n ≡ leb (limit_for k w) n
full_by Register w n h le = absurd (false≢true h)
full_by Queue w n h le = sym (lt-leb 255 n (omega arith))
full_by Stack w n h le = sym (lt-leb 255 n (omega arith))
full_by Window w n h le = absurd (false≢true h)
full_by Channel w n h le = refl

module _ (s : State) (len : length s.numbers ≡ 65) where
  full-held : (o : Object) → Suits o Push s → full o (held s) ≡ leb s.limit (s.tail - s.head)
  full-held o k =
      let n : ℕ = s.tail - s.head in
      ap (λ (m : ℕ). is_channel o.kind && leb o.width m) (length-slice s.head s.tail s.numbers (omega arith))
      ∙ full_by o.kind o.width n k.has (omega arith)
      ∙ ap (λ (m : ℕ). leb m n) k.limit

  full_is : (vs : List ℕ) (o : Object) → Suits o Push s → full o (contents_of vs s) ≡ leb s.limit (s.tail - s.head)
  unfolding contents_of
  full_is vs o k = map-full (value_in vs) o (held s) ∙ full-held o k

module _ (s : State) where
  module _ (len : length s.numbers ≡ 65) (room : s.tail < 65) (number : ℕ) where
    put : (b : Bool) → leb s.limit (s.tail - s.head) ≡ b → (o : Object) → Suits o Push s
        → after o Push number (held s) ≡ cond b (held s) (held s ++ (number ∷ []))
    put b e o k =
        ap (λ (t : Bool). cond t (held s) (held s ++ (number ∷ []))) (full-held s len o k ∙ e)

    pub push-full : leb s.limit (s.tail - s.head) ≡ true → Changed s Push number s
    push-full e = changed-law s s Push number refl refl s.ordered (omega arith) (λ o k. sym (put true e o k))

    pub push-changes : leb s.limit (s.tail - s.head) ≡ false → {h : s.head ≤ s.tail + 1} {t : s.tail + 1 ≤ 65}
        → Changed s Push number (between s (set s.numbers s.tail number) s.head (s.tail + 1) h t)
    push-changes e =
        changed-law s _ Push number refl refl (omega arith) (omega arith)
        (λ o k.
        slice-push s.numbers s.head s.tail number s.ordered (omega arith)
        ∙ sym (put false e o k))

    -- what a write makes of it: the last ones of what it held and the new one
    last-values : (o : Object) → Suits o Write s
        → after o Write number (held s) ≡ slice (s.head + (s.tail - s.head + 1 - s.limit)) (s.tail + 1) (set s.numbers s.tail number)
    last-values o k =
        let l = set s.numbers s.tail number in
        let q : held s ++ (number ∷ []) ≡ slice s.head (s.tail + 1) l = sym (slice-push s.numbers s.head s.tail number s.ordered (omega arith)) in
        let n : length (slice s.head (s.tail + 1) l) ≡ s.tail + 1 - s.head =
        length-slice s.head (s.tail + 1) l (omega (arith, length-set s.numbers s.tail number)) in
        let z : length (slice s.head (s.tail + 1) l) - s.limit ≡ s.tail - s.head + 1 - s.limit = omega (arith, n) in
        ap (λ (m : ℕ). last_values m (held s ++ (number ∷ []))) (keeps-by o.kind o.width k.has ∙ k.limit)
        ∙ ap (last_values s.limit) q
        ∙ ap (λ (m : ℕ). drop m (slice s.head (s.tail + 1) l)) z
        ∙ drop-drop (s.tail - s.head + 1 - s.limit) s.head (take (s.tail + 1) l)

    write-at : (h : ℕ) → h ≡ s.head + (s.tail - s.head + 1 - s.limit) → {le : h ≤ s.tail + 1} {t : s.tail + 1 ≤ 65}
        → Changed s Write number (between s (set s.numbers s.tail number) h (s.tail + 1) le t)
    write-at h e {le} =
        changed-law s _ Write number refl refl le (omega arith)
        (λ o k. ap (λ (x : ℕ). slice x (s.tail + 1) (set s.numbers s.tail number)) e ∙ sym (last-values o k))

    pub write-drops : leb s.limit (s.tail - s.head) ≡ true → {h : s.tail + 1 - s.limit ≤ s.tail + 1} {t : s.tail + 1 ≤ 65}
        → Changed s Write number (between s (set s.numbers s.tail number) (s.tail + 1 - s.limit) (s.tail + 1) h t)
    write-drops e = let le = leb-true s.limit (s.tail - s.head) e in write-at (s.tail + 1 - s.limit) (omega arith)

    pub write-adds : leb s.limit (s.tail - s.head) ≡ false → {h : s.head ≤ s.tail + 1} {t : s.tail + 1 ≤ 65}
        → Changed s Write number (between s (set s.numbers s.tail number) s.head (s.tail + 1) h t)
    write-adds e = let lt = leb-false s.limit (s.tail - s.head) e in write-at s.head (omega arith)

  module _ (empty : s.head ≡ s.tail) where
    none-held : held s ≡ []
    none-held = rw empty (slice_empty s.tail s.numbers)

    pub pop-none : (number : ℕ) → Changed s Pop number s
    pop-none number =
        changed-law s s Pop number refl refl s.ordered (omega arith)
        (λ o k. none-held ∙ sym (ap (untop o.kind) none-held ∙ untop-none o.kind))

  module _ (lt : s.head < s.tail) where
    pub pop-oldest : s.newest ≡ false → {h : s.head + 1 ≤ s.tail} {t : s.tail ≤ 65} → (number : ℕ)
        → Changed s Pop number (between s s.numbers (s.head + 1) s.tail h t)
    pop-oldest n number =
        changed-law s _ Pop number refl refl (omega arith) (omega arith)
        (λ o k. slice-tail s.numbers s.head s.tail ∙ sym (untop-is o.kind (held s) ∙ rw (k.newest ∙ n)))

    module _ (len : length s.numbers ≡ 65) where
      newest-last : held s ≡ slice s.head (s.tail - 1) s.numbers ++ (get_or s.numbers (s.tail - 1) 0 ∷ [])
      newest-last =
          let e : s.tail ≡ s.tail - 1 + 1 = omega arith in
          ap (λ (t : ℕ). slice s.head t s.numbers) e
          ∙ slice_snoc s.numbers s.head (s.tail - 1) (omega arith) (omega (arith, s.room))

      oldest-first : held s ≡ get_or s.numbers s.head 0 ∷ slice (suc s.head) s.tail s.numbers
      oldest-first = slice-cons s.head s.tail s.numbers 0 lt (omega (arith, s.room))

      pub pop-newest : s.newest ≡ true → {h : s.head ≤ s.tail - 1} {t : s.tail - 1 ≤ 65} → (number : ℕ)
          → Changed s Pop number (between s s.numbers s.head (s.tail - 1) h t)
      pop-newest n number =
          changed-law s _ Pop number refl refl (omega arith) (omega arith)
          (λ o k. sym (untop-is o.kind (held s) ∙ rw (k.newest ∙ n, newest-last, snoc-init)))

-- ---- what a state answers
module _ (s : State) (a : Given) where
  shows-law : (l : List ℕ) → Names l a → ((o : Object) → is_stack o.kind ≡ s.newest → l ≡ top o.kind (held s)) → Shows s a
  unfolding contents_of given_of
  shows-law l g e =
      record {
        values = λ vs o k. ap (map (value_in vs)) (g.numbers ∙ e o k) ∙ map-top (value_in vs) o.kind (held s);
      }

  pub shows-none : s.head ≡ s.tail → Names [] a → Shows s a
  shows-none empty g = shows-law [] g (λ o k. sym (ap (top o.kind) (none-held s empty) ∙ top-none o.kind))

  module _ (lt : s.head < s.tail) (len : length s.numbers ≡ 65) where
    pub shows-newest : s.newest ≡ true → Names (get_or s.numbers (s.tail - 1) 0 ∷ []) a → Shows s a
    shows-newest n g =
        shows-law _ g (λ o k. sym (top-is o.kind (held s) ∙ rw (k ∙ n, newest-last s lt len, snoc-last)))

    pub shows-oldest : s.newest ≡ false → Names (get_or s.numbers s.head 0 ∷ []) a → Shows s a
    shows-oldest n g =
        shows-law _ g (λ o k. sym (top-is o.kind (held s) ∙ rw (k ∙ n, oldest-first s lt len)))

  pub end-answers : (op : Op) (number : ℕ) → ((o : Object) (v : ℕ) (l : List ℕ) → top o.kind l ≡ gives o op v l) → Shows s a
      → Answered s op number a
  end-answers op number e g =
      record { values = λ vs o k h. g.values vs o k.newest ∙ e o (value_in vs number) (contents_of vs s) }

  pub none_answers : (op : Op) (number : ℕ) → ((o : Object) (v : ℕ) (l : List ℕ) → [] ≡ gives o op v l) → Names [] a
      → Answered s op number a
  unfolding given_of
  none_answers op number e g =
      record { values = λ vs o k h. ap (map (value_in vs)) g.numbers ∙ e o (value_in vs number) (contents_of vs s) }

  -- a push answers its value where the object holds as many as it can
  pub push-answers : (number : ℕ) (b : Bool) → length s.numbers ≡ 65 → leb s.limit (s.tail - s.head) ≡ b
      → Names (cond b (number ∷ []) []) a → Answered s Push number a
  unfolding given_of
  push-answers number b len e g = record {
    values = λ vs o k h.
        ap (map (value_in vs)) g.numbers
        ∙ map_back (value_in vs) b number
        ∙ sym (ap (λ (t : Bool). cond t (value_in vs number ∷ []) []) (full_is s len vs o k ∙ e));
  }

-- ---- the copy of a read
-- the first n values that the object holds, from the place `first` to the place `end`; the places behind them hold what they held
pub read-answers : (s : State) (first end n : ℕ) (copied rest : List ℕ) → length s.numbers ≡ 65 → first ≡ s.head → end ≡ s.tail
    → n ≡ min (length (take (end - first) (drop first s.numbers))) 8 → copied ≡ take n (take (end - first) (drop first s.numbers)) → {few : n ≤ 8}
    → (number : ℕ) → Answered s Read number (record { numbers = copied ++ rest; count = n; few = few })
unfolding contents_of given_of
read-answers s first end n copied rest len h t least copy {few} number =
    let t_is : s.tail ≡ s.head + (s.tail - s.head) = omega arith in
    let are : take (end - first) (drop first s.numbers) ≡ held s =
    rw (h, t) (sym (drop-take s.head (s.tail - s.head) s.numbers) ∙ ap (λ (k : ℕ). slice s.head k s.numbers) (sym t_is)) in
    let n_is : n ≡ min (length (held s)) 8 = least ∙ ap (λ (l : List ℕ). min (length l) 8) are in
    let first-n : take n (copied ++ rest) ≡ take n (held s) =
    take_at copied rest n (ap length copy ∙ ap (λ (l : List ℕ). length (take n l)) are ∙ length-take-le n (held s) (omega (arith, n_is))) ∙ copy ∙ ap (take n) are in
    record {
      values = λ vs o k e.
          ap (map (value_in vs)) (first-n ∙ take_all n (held s) (omega (arith, n_is, e refl, length-map (held s) (value_in vs))));
    }

-- ---- the op that a match found
pub at_op : {s : State} {op p : Op} {number : ℕ} {r : State} → op ≡ p → Changed s p number r → Changed s op number r
at_op {s} {op} {p} {number} {r} e h = subst (λ (q : Op). Changed s q number r) (sym e) h

pub asked : {s : State} {op p : Op} {number : ℕ} {a : Given} → op ≡ p → Answered s p number a → Answered s op number a
asked {s} {op} {p} {number} {a} e h = subst (λ (q : Op). Answered s q number a) (sym e) h
