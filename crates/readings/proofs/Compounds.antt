-- The laws of the compound types' readings, from those of their parts.
use Rattle.std.proofs.Common.{◌≡◌, ℕ, ◌+◌, true, eqb, List, [], ◌∷◌, ◌++◌, Some, None, Ok, Err, Option, Result, sym, refl, ap, ◌∙◌, subst, append-nil}
use Rattle.format.specs.Refusals.{refusal}
use Rattle.format.specs.Standing.{UnsignedStands, ByteStands, OptionStands, ResultStands, BoundStands, PairStands}
use Rattle.format.specs.declared.config.Endianness.{Endianness}
use Rattle.format.specs.declared.config.IntEncoding.{IntEncoding}
use Rattle.format.specs.declared.error.IntegerType.TheVariants.{U32}
use Rattle.readings.proofs.Accepts.{giving_accepts, refusing_accepts, either_accepts, then_accepts, made_accepts}
use Rattle.readings.proofs.Integers.{integer_lawful, unsigned_accepts}
use Rattle.readings.proofs.Scalars.{made_lawful, byte_lawful, byte_returns, byte_accepts}
use Rattle.readings.proofs.Words.{giving_returns, made_returns, then_returns, giving_lawful, refusing_lawful, then_lawful}
use Rattle.readings.specs.Accepts.{Accepts}
use Rattle.readings.specs.Compounds.{unknown_tag, option_after, option_reading, result_after, result_reading, bound_after, bound_reading, pair_reading}
use Rattle.readings.specs.Integers.{integer_reading}
use Rattle.readings.specs.Laws.{Returns, Lawful}
use Rattle.readings.specs.Readings.{Reading, giving, ◌then◌}
use Rattle.readings.specs.Scalars.{byte_reading}
use Rattle.std.proofs.lemmas.Bool.{eqb-true, cond_both}
use Rattle.std.specs.declared.ops.Bound.{Bound}
use Rattle.std.specs.declared.ops.Bound.TheVariants.{Included, Excluded, Unbounded}

-- ---- what every reading keeps

-- a tag that is none of those there are uses nothing more
unknown_lawful : {A : Type 0} (max x : ℕ) → Lawful {A = A} 2 0 0 (unknown_tag max x)
unknown_lawful max x = refusing_lawful 2 0 0 (refusal 5 (x ∷ 0 ∷ max ∷ []))

module _ {A : Type 0} (f : Reading A) (k : Lawful 2 0 0 f) where
  -- an option, after its byte and from the start
  pub option_after_lawful : (x : ℕ) → Lawful 2 0 0 (option_after f x)
  option_after_lawful x =
      cond_both {A = Reading (Option A)} (eqb x 0) (giving None) _ (Lawful 2 0 0)
      (λ _. giving_lawful 2 0 None)
      (λ _. cond_both {A = Reading (Option A)} (eqb x 1) (f then (λ v. giving (Some v))) (unknown_tag 1 x) (Lawful 2 0 0) (λ _. made_lawful f Some k) (λ _. unknown_lawful 1 x))

  pub option_lawful : Lawful 2 0 0 (option_reading f)
  option_lawful = then_lawful 2 0 0 0 byte_reading (option_after f) byte_lawful option_after_lawful

  -- a bound, after its tag and from the start
  pub bound_after_lawful : (x : ℕ) → Lawful 2 0 0 (bound_after f x)
  bound_after_lawful x =
      cond_both {A = Reading (Bound A)} (eqb x 0) (giving Unbounded) _ (Lawful 2 0 0)
      (λ _. giving_lawful 2 0 Unbounded)
      (λ _. cond_both {A = Reading (Bound A)} (eqb x 1) (f then (λ v. giving (Included v))) _ (Lawful 2 0 0)
      (λ _. made_lawful f Included k)
      (λ _. cond_both {A = Reading (Bound A)} (eqb x 2) (f then (λ v. giving (Excluded v))) (unknown_tag 2 x) (Lawful 2 0 0) (λ _. made_lawful f Excluded k) (λ _. unknown_lawful 2 x)))

  pub bound_lawful : (o : Endianness) (i : IntEncoding) → Lawful 2 0 0 (bound_reading o i f)
  bound_lawful o i = then_lawful 2 0 0 0 (integer_reading U32 o i) (bound_after f) (integer_lawful U32 o i) bound_after_lawful

module _ {A B : Type 0} (f : Reading A) (g : Reading B) (k : Lawful 2 0 0 f) (j : Lawful 2 0 0 g) where
  -- a result, after its tag and from the start
  pub result_after_lawful : (x : ℕ) → Lawful 2 0 0 (result_after f g x)
  result_after_lawful x =
      cond_both {A = Reading (Result A B)} (eqb x 0) (f then (λ v. giving (Ok v))) _ (Lawful 2 0 0)
      (λ _. made_lawful f Ok k)
      (λ _. cond_both {A = Reading (Result A B)} (eqb x 1) (g then (λ w. giving (Err w))) (unknown_tag 1 x) (Lawful 2 0 0) (λ _. made_lawful g Err j) (λ _. unknown_lawful 1 x))

  pub result_lawful : (o : Endianness) (i : IntEncoding) → Lawful 2 0 0 (result_reading o i f g)
  result_lawful o i = then_lawful 2 0 0 0 (integer_reading U32 o i) (result_after f g) (integer_lawful U32 o i) result_after_lawful

  -- two values in a row
  pub pair_lawful : Lawful 2 0 0 (pair_reading f g)
  pair_lawful = then_lawful 2 0 0 0 f (λ a. g then (λ b. giving (a, b))) k (λ a. made_lawful g (λ b. (a, b)) j)

-- ---- what is written is returned

module _ {A : Type 0} (f : Reading A) where
  -- an option: its byte, and then the value's bytes if there is one
  pub none_returns : Returns (option_reading f) (0 ∷ []) 1 None
  none_returns = then_returns byte_reading (option_after f) 0 None (0 ∷ []) [] 1 0 (byte_returns (0 ∷ []) 0 refl) (giving_returns None)

  pub some_returns : (x : List ℕ) (c : ℕ) (v : A) → Returns f x c v → Returns (option_reading f) (1 ∷ x) (1 + c) (Some v)
  some_returns x c v h = then_returns byte_reading (option_after f) 1 (Some v) (1 ∷ []) x 1 c (byte_returns (1 ∷ []) 1 refl) (made_returns f Some v x c h)

  -- a bound, where the bytes x are read as its tag
  module _ (o : Endianness) (i : IntEncoding) (x : List ℕ) where
    pub unbounded_returns : Returns (integer_reading U32 o i) x 4 0 → Returns (bound_reading o i f) x 4 Unbounded
    unbounded_returns tag =
        subst (λ z. Returns (bound_reading o i f) z 4 Unbounded) (append-nil x)
        (then_returns (integer_reading U32 o i) (bound_after f) 0 Unbounded x [] 4 0 tag (giving_returns Unbounded))

    pub included_returns : (y : List ℕ) (c : ℕ) (v : A) → Returns (integer_reading U32 o i) x 4 1 → Returns f y c v → Returns (bound_reading o i f) (x ++ y) (4 + c) (Included v)
    included_returns y c v tag h = then_returns (integer_reading U32 o i) (bound_after f) 1 (Included v) x y 4 c tag (made_returns f Included v y c h)

    pub excluded_returns : (y : List ℕ) (c : ℕ) (v : A) → Returns (integer_reading U32 o i) x 4 2 → Returns f y c v → Returns (bound_reading o i f) (x ++ y) (4 + c) (Excluded v)
    excluded_returns y c v tag h = then_returns (integer_reading U32 o i) (bound_after f) 2 (Excluded v) x y 4 c tag (made_returns f Excluded v y c h)

module _ {A B : Type 0} (f : Reading A) (g : Reading B) (x y : List ℕ) where
  -- a result, where the bytes x are read as its tag
  pub ok_returns : (o : Endianness) (i : IntEncoding) (c : ℕ) (v : A) → Returns (integer_reading U32 o i) x 4 0 → Returns f y c v → Returns (result_reading o i f g) (x ++ y) (4 + c) (Ok v)
  ok_returns o i c v tag h = then_returns (integer_reading U32 o i) (result_after f g) 0 (Ok v) x y 4 c tag (made_returns f Ok v y c h)

  pub err_returns : (o : Endianness) (i : IntEncoding) (c : ℕ) (w : B) → Returns (integer_reading U32 o i) x 4 1 → Returns g y c w → Returns (result_reading o i f g) (x ++ y) (4 + c) (Err w)
  err_returns o i c w tag h = then_returns (integer_reading U32 o i) (result_after f g) 1 (Err w) x y 4 c tag (made_returns g Err w y c h)

  -- two values in a row
  pub pair_returns : (a b : ℕ) (v : A) (w : B) → Returns f x a v → Returns g y b w → Returns (pair_reading f g) (x ++ y) (a + b) (v, w)
  pair_returns a b v w h k = then_returns f (λ p. g then (λ q. giving (p, q))) v (v, w) x y a b h (made_returns g (λ q. (v, q)) w y b k)

-- ---- what an accepted reading used stands for the value

module _ {A : Type 0} (f : Reading A) (S : List ℕ → A → Type 0) (k : Accepts f S) where
  -- an option: its byte was 0, or 1 and the value was accepted
  pub option_accepts : Accepts (option_reading f) (OptionStands S)
  option_accepts =
      then_accepts byte_reading (option_after f) ByteStands (OptionStands S) byte_accepts
      (λ n x c. let R : List ℕ → Option A → Type 0 = λ y v. OptionStands S (x ++ y) v in
      let is : (j : ℕ) → eqb n j ≡ true → j ∷ [] ≡ x = λ j e. sym (c ∙ ap (λ m. m ∷ []) (eqb-true n j e)) in
      either_accepts R (eqb n 0) (giving None) _
      (λ e. giving_accepts R None (subst (λ z. OptionStands S (z ++ []) None) (is 0 e) OptionStands.none))
      (λ _. either_accepts R (eqb n 1) (f then (λ v. giving (Some v))) (unknown_tag 1 n)
      (λ e. made_accepts f Some S R k (λ y v h. subst (λ z. OptionStands S (z ++ y) (Some v)) (is 1 e) (OptionStands.some h)))
      (λ _. refusing_accepts R (refusal 5 (n ∷ 0 ∷ 1 ∷ [])))))

  -- a bound: its tag was 0, or 1 or 2 and the value was accepted
  pub bound_accepts : (o : Endianness) (i : IntEncoding) → Accepts (bound_reading o i f) (BoundStands o i S)
  bound_accepts o i =
      then_accepts (integer_reading U32 o i) (bound_after f) (UnsignedStands 4 o i) (BoundStands o i S) (unsigned_accepts U32 o i)
      (λ n x c. let R : List ℕ → Bound A → Type 0 = λ y v. BoundStands o i S (x ++ y) v in
      let is : (j : ℕ) → eqb n j ≡ true → UnsignedStands 4 o i x j = λ j e. subst (UnsignedStands 4 o i x) (eqb-true n j e) c in
      either_accepts R (eqb n 0) (giving Unbounded) _
      (λ e. giving_accepts R Unbounded (subst (λ z. BoundStands o i S z Unbounded) (sym (append-nil x)) (BoundStands.unbounded (is 0 e))))
      (λ _. either_accepts R (eqb n 1) (f then (λ v. giving (Included v))) _
      (λ e. made_accepts f Included S R k (λ y v h. BoundStands.included (is 1 e) h))
      (λ _. either_accepts R (eqb n 2) (f then (λ v. giving (Excluded v))) (unknown_tag 2 n)
      (λ e. made_accepts f Excluded S R k (λ y v h. BoundStands.excluded (is 2 e) h))
      (λ _. refusing_accepts R (refusal 5 (n ∷ 0 ∷ 2 ∷ []))))))

module _ {A B : Type 0} (f : Reading A) (g : Reading B) (S : List ℕ → A → Type 0) (U : List ℕ → B → Type 0) (k : Accepts f S) (j : Accepts g U) where
  -- a result: its tag was 0 or 1, and that value was accepted
  pub result_accepts : (o : Endianness) (i : IntEncoding) → Accepts (result_reading o i f g) (ResultStands o i S U)
  result_accepts o i =
      then_accepts (integer_reading U32 o i) (result_after f g) (UnsignedStands 4 o i) (ResultStands o i S U) (unsigned_accepts U32 o i)
      (λ n x c. let R : List ℕ → Result A B → Type 0 = λ y v. ResultStands o i S U (x ++ y) v in
      let is : (m : ℕ) → eqb n m ≡ true → UnsignedStands 4 o i x m = λ m e. subst (UnsignedStands 4 o i x) (eqb-true n m e) c in
      either_accepts R (eqb n 0) (f then (λ v. giving (Ok v))) _
      (λ e. made_accepts f Ok S R k (λ y v h. ResultStands.ok (is 0 e) h))
      (λ _. either_accepts R (eqb n 1) (g then (λ w. giving (Err w))) (unknown_tag 1 n)
      (λ e. made_accepts g Err U R j (λ y w h. ResultStands.err (is 1 e) h))
      (λ _. refusing_accepts R (refusal 5 (n ∷ 0 ∷ 1 ∷ [])))))

  -- two values in a row
  pub pair_accepts : Accepts (pair_reading f g) (PairStands S U)
  pair_accepts =
      then_accepts f (λ a. g then (λ b. giving (a, b))) S (PairStands S U) k
      (λ a x c. made_accepts g (λ b. (a, b)) U (λ y p. PairStands S U (x ++ y) p) j (λ y b h. PairStands.pair c h))
