-- Laws of the lists that are made of a sequential order. Assumes nothing.
use Rattle.std.proofs.Common.{ℕ, ◌+◌, ◌<◌, ◌≡◌, refl, sym, ap, ap₂, ◌∙◌, true, List, map, length, take, set, replicate, ltb, lt-ltb, ltb-true, arith}
use Rattle.history.specs.Record.{pad}
use Rattle.history.proofs.PadLaws.{pad-none}
use Rattle.certificate.specs.declared.record.EventList.{EventList}
use Rattle.certificate.specs.Record.{no_list, event_list_of}
use Rattle.criteria.specs.Tests.{table, up_to, keep, mem, place}
use Rattle.criteria.specs.Weaken.{precedes, pasts_of}
use Rattle.criteria.proofs.Lists.{by-test, same_test, place_in, place_out, mem-take, take-mem, keep-cong}
use Rattle.orders.specs.Rows.{in_row}
use Rattle.weakened.proofs.RowsLaws.{lists-more}

-- ---- what precedes an event

before-mem : (v : List ℕ) (f e : ℕ) → mem e v ≡ true → mem f (take (place e v) v) ≡ ltb (place f v) (place e v)
before-mem v f e m =
    let p = place_in e v m in
    same_test (mem f (take (place e v) v)) (ltb (place f v) (place e v))
    (λ t. lt-ltb (place f v) (place e v) (take-mem f (place e v) v t).1)
    (λ t. let l = ltb-true (place f v) (place e v) t in
    mem-take f (place e v) v (by-test (mem f v) (λ s. s) (λ s. let q = place_out f v s in absurd (omega arith))) l)

pub preceding-done : (v part : List ℕ) (e row : ℕ) (result : EventList) → mem e v ≡ true → part ≡ take (place e v) v
    → ((f : ℕ) → in_row row f ≡ mem f part) → result ≡ event_list_of (keep (in_row row) (up_to (length v)))
    → result ≡ event_list_of (keep (λ f. precedes v f e) (up_to (length v)))
unfolding precedes
preceding-done v part e row result m p r q =
    q
    ∙ ap event_list_of
    (keep-cong (in_row row) (λ f. precedes v f e) (up_to (length v)) (λ f. r f ∙ ap (mem f) p ∙ before-mem v f e m ∙ rw m refl))

-- ---- the pasts of all events
abbrev pub past_of : List ℕ → ℕ → List ℕ
past_of v e = keep (λ f. precedes v f e) (up_to (length v))

pub pasts-none : (v : List ℕ) (b : EventList) → b ≡ no_list → replicate 64 b ≡ pad 64 no_list (map event_list_of (table 0 (past_of v)))
pasts-none v b e = ap (replicate 64) e ∙ sym (pad-none 64 no_list)

pub pasts-more : (v : List ℕ) (i : ℕ) (out : List EventList) (l : EventList) → i < 64 → out ≡ pad 64 no_list (map event_list_of (table i (past_of v)))
    → l ≡ event_list_of (past_of v i) → set out i l ≡ pad 64 no_list (map event_list_of (table (i + 1) (past_of v)))
pasts-more v i out l h e q = ap₂ (λ (o : List EventList) (x : EventList). set o i x) e q ∙ lists-more (past_of v) i h

pub pasts-done : (v : List ℕ) (i : ℕ) (out : List EventList) → i ≡ length v → out ≡ pad 64 no_list (map event_list_of (table i (past_of v)))
    → out ≡ pad 64 no_list (map event_list_of (pasts_of (length v) (precedes v)))
unfolding pasts_of
pasts-done v i out z e = e ∙ ap (λ (k : ℕ). pad 64 no_list (map event_list_of (table k (past_of v)))) z
