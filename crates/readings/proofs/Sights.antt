-- That the view matters to the two marks alone, for each word.
use Rattle.std.proofs.Common.{◌≡◌, ℕ, ◌+◌, ◌<◌, ◌≤◌, min, Bool, true, false, cond, leb, ◌⊎◌, List, length, get_or, drop, Option, sym, refl, ap, ◌∙◌, subst, inl, inr, add_assoc, drop-drop, leb-false, leb-true}
use Rattle.format.specs.Refusals.{Answer, given, refused}
use Rattle.readings.specs.Laws.{Same, Marked, Alike}
use Rattle.readings.specs.Readings.{Source, Outcome, outcome, Reading, looking, in_view, peeking, moved, resumed, ◌then◌}

abbrev pub Sees : {A : Type 0} → Reading A → Type 0
Sees f = (s t : Source) → Same s t → Alike s t (f s) (f t)

pub same_back : {s t : Source} → Same s t → Same t s
same_back k = record { waiting = sym k.waiting; limit = sym k.limit; count = sym k.count }

pub same_moved : {s t : Source} (u c : ℕ) → Same s t → Same (moved u c s) (moved u c t)
same_moved u c k = record { waiting = ap (drop u) k.waiting; limit = k.limit; count = refl }

-- a reading that does not look at the view
pub blind_sees : {A : Type 0} (f : List ℕ → Option ℕ → ℕ → Outcome A) → Sees (λ s. f s.waiting s.limit s.count)
blind_sees f s t k = inl (λ i. f (k.waiting i) (k.limit i) (k.count i))

-- what can be seen after u bytes, from the source that is moved by them
view_moved : (s : Source) (u c k : ℕ) → min ((moved u c s).view k) (length (drop k (moved u c s).waiting)) ≡ min (s.view (u + k)) (length (drop (u + k) s.waiting))
view_moved s u c k = ap (λ w. min (s.view (u + k)) (length w)) (drop-drop k u s.waiting)

module _ {A B : Type 0} (g : A → Reading B) where
  abbrev on : Source → Outcome A → Outcome B
  on s o = resumed g s o.answer o.used o.counted

  -- the second reading's marks are those of the whole
  marked_later : (s t : Source) (u c : ℕ) (x y : Outcome B) → Marked (moved u c s) (moved u c t) x y → Marked s t (outcome x.answer (u + x.used) x.counted) (outcome y.answer (u + y.used) y.counted)
  marked_later s t u c x y k = record {
    near = k.near;
    far = k.far;
    found = k.found;
    peeked = k.peeked;
    unpeeked = k.unpeeked;
    marks = k.marks;
    tag = ap (λ n. u + n) k.tag ∙ sym (add_assoc u x.used 1);
    count = k.count;
    at = u + k.at;
    wanted = k.wanted;
    seen = subst (λ n. k.wanted ≤ n) (view_moved s u c k.at) k.seen;
    unseen = subst (λ n. n < k.wanted) (view_moved t u c k.at) k.unseen;
  }

  -- the first reading's marks stop the whole
  marked_stops : (s t : Source) (x y : Outcome A) → Marked s t x y → Marked s t (on s x) (on t y)
  marked_stops s t x y k = record {
    near = k.near;
    far = k.far;
    found = k.found;
    peeked = ap (λ (a : Answer A). (resumed g s a x.used x.counted).answer) k.peeked;
    unpeeked = ap (λ (a : Answer A). (resumed g t a y.used y.counted).answer) k.unpeeked;
    marks = k.marks;
    tag = ap (λ (a : Answer A). (resumed g t a y.used y.counted).used) k.unpeeked ∙ k.tag ∙ ap (λ (a : Answer A). (resumed g s a x.used x.counted).used + 1) (sym k.peeked);
    count = ap (λ (a : Answer A). (resumed g s a x.used x.counted).counted) k.peeked ∙ k.count ∙ ap (λ (a : Answer A). (resumed g t a y.used y.counted).counted) (sym k.unpeeked);
    at = k.at;
    wanted = k.wanted;
    seen = k.seen;
    unseen = k.unseen;
  }

  resumed_sees : ((a : A) → Sees (g a)) → (s t : Source) → Same s t → (a : Answer A) (u c : ℕ) → Alike s t (resumed g s a u c) (resumed g t a u c)
  resumed_sees kg s t same (refused z) u c = inl refl
  resumed_sees kg s t same (given a) u c = by (kg a (moved u c s) (moved u c t) (same_moved u c same))
    where
      by : Alike (moved u c s) (moved u c t) (g a (moved u c s)) (g a (moved u c t)) → Alike s t (resumed g s (given a) u c) (resumed g t (given a) u c)
      by (inl e) = inl (ap (λ (o : Outcome B). outcome o.answer (u + o.used) o.counted) e)
      by (inr (inl k)) = inr (inl (marked_later s t u c (g a (moved u c s)) (g a (moved u c t)) k))
      by (inr (inr k)) = inr (inr (marked_later t s u c (g a (moved u c t)) (g a (moved u c s)) k))

  pub then_sees : (f : Reading A) → Sees f → ((a : A) → Sees (g a)) → Sees (f then g)
  then_sees f kf kg s t same = by (kf s t same)
    where
      by : Alike s t (f s) (f t) → Alike s t ((f then g) s) ((f then g) t)
      by (inl e) = subst (λ (o : Outcome A). Alike s t ((f then g) s) (on t o)) e (resumed_sees kg s t same (f s).answer (f s).used (f s).counted)
      by (inr (inl k)) = inr (inl (marked_stops s t (f s) (f t) k))
      by (inr (inr k)) = inr (inr (marked_stops t s (f t) (f s) k))

pub looking_sees : {A : Type 0} (g : ℕ → Reading A) → ((x : ℕ) → Sees (g x)) → Sees (looking g)
looking_sees g k s t same = subst (λ (x : ℕ). Alike s t (looking g s) (g x t)) (ap (λ w. get_or w 0 0) same.waiting) (k (get_or s.waiting 0 0) s t same)

-- the two ways agree, but for the marks, where one source has the bytes in view and the other has not
abbrev pub Agree : {A : Type 0} → ℕ → Reading A → Reading A → Type 0
Agree n near far = (s t : Source) → Same s t → n ≤ in_view s → in_view t < n → (near s ≡ far t) ⊎ Marked s t (near s) (far t)

pub peeking_sees : {A : Type 0} (n : ℕ) (near far : Reading A) → Sees near → Sees far → Agree n near far → Sees (peeking n near far)
peeking_sees n near far kn kf agree s t same = by (leb n (in_view s)) (leb n (in_view t)) (leb-true n (in_view s)) (leb-false n (in_view s)) (leb-true n (in_view t)) (leb-false n (in_view t))
  where
    ahead : (near s ≡ far t) ⊎ Marked s t (near s) (far t) → Alike s t (near s) (far t)
    ahead (inl e) = inl e
    ahead (inr k) = inr (inl k)

    behind : (near t ≡ far s) ⊎ Marked t s (near t) (far s) → Alike s t (far s) (near t)
    behind (inl e) = inl (sym e)
    behind (inr k) = inr (inr k)

    by : (x y : Bool) → (x ≡ true → n ≤ in_view s) → (x ≡ false → in_view s < n) → (y ≡ true → n ≤ in_view t) → (y ≡ false → in_view t < n) → Alike s t (cond x (near s) (far s)) (cond y (near t) (far t))
    by true true a b c d = kn s t same
    by true false a b c d = ahead (agree s t same (a refl) (d refl))
    by false true a b c d = behind (agree t s (same_back same) (c refl) (b refl))
    by false false a b c d = kf s t same

-- ---- readings that never look at the view

abbrev pub Blind : {A : Type 0} → Reading A → Type 0
Blind f = (s t : Source) → Same s t → f s ≡ f t

pub blind_word : {A : Type 0} (f : List ℕ → Option ℕ → ℕ → Outcome A) → Blind (λ s. f s.waiting s.limit s.count)
blind_word f s t k i = f (k.waiting i) (k.limit i) (k.count i)

resumed_blind : {A B : Type 0} (g : A → Reading B) → ((a : A) → Blind (g a)) → (s t : Source) → Same s t → (a : Answer A) (u c : ℕ) → resumed g s a u c ≡ resumed g t a u c
resumed_blind g kg s t same (given a) u c = ap (λ o. outcome o.answer (u + o.used) o.counted) (kg a (moved u c s) (moved u c t) (same_moved u c same))
resumed_blind g kg s t same (refused z) u c = refl

pub then_blind : {A B : Type 0} (f : Reading A) (g : A → Reading B) → Blind f → ((a : A) → Blind (g a)) → Blind (f then g)
then_blind {A} f g kf kg s t same =
    resumed_blind g kg s t same (f s).answer (f s).used (f s).counted ∙ ap (λ (o : Outcome A). resumed g t o.answer o.used o.counted) (kf s t same)
