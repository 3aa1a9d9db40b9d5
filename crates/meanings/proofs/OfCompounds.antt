-- The compound types' relations are theirs if their parts' are.
use Rattle.std.proofs.Common.{ℕ, List, Some, None, Ok, Err}
use Rattle.format.specs.Standing.{OptionStands, none, some, ResultStands, ok, err, BoundStands, unbounded, included, excluded, PairStands}
use Rattle.format.specs.Standing as relation
use Rattle.format.specs.declared.config.Endianness.{Endianness}
use Rattle.format.specs.declared.config.IntEncoding.{IntEncoding}
use Rattle.format.specs.declared.error.IntegerType.TheVariants.{U32}
use Rattle.elements.specs.Compounds.{option, result, bound, pair}
use Rattle.elements.specs.Elements.{ElementMeaning}
use Rattle.readings.proofs.Compounds.{none_returns, some_returns, option_accepts, ok_returns, err_returns, result_accepts, unbounded_returns, included_returns, excluded_returns, bound_accepts, pair_returns, pair_accepts}
use Rattle.readings.proofs.Integers.{unsigned_returns}
use Rattle.readings.proofs.Standing.{none_writes, some_writes, ok_writes, err_writes, unbounded_writes, included_writes, excluded_writes, pair_writes}
use Rattle.readings.specs.Compounds.{option_reading, result_reading, bound_reading, pair_reading}
use Rattle.readings.specs.Laws.{Returns}
use Rattle.readings.specs.Readings.{Reading}
use Rattle.meanings.specs.Relations.{Stands, WrittenStands}
use Rattle.std.proofs.lemmas.Bool.{and_parts}
use Rattle.std.specs.declared.ops.Bound.TheVariants.{Included, Excluded, Unbounded}

module _ {A : Type 0} (e : ElementMeaning A) (f : Endianness → IntEncoding → Reading A) (S : Endianness → IntEncoding → List ℕ → A → Type 0) (k : Stands e f S) where
  option_writes : WrittenStands (option e) (λ o i. OptionStands (S o i))
  option_writes o i None h = none_writes (S o i)
  option_writes o i (Some v) h = some_writes (S o i) (e.writing o i v) v (k.writes o i v h)

  option_returns : (o : Endianness) (i : IntEncoding) (bs : List ℕ) (v : _) → OptionStands (S o i) bs v → Returns (option_reading (f o i)) bs ((option e).claim v) v
  option_returns o i bs v none = none_returns (f o i)
  option_returns o i bs u (some {x} {v} h) = some_returns (f o i) x (e.claim v) v (k.returns o i x v h)

  pub option_stands : Stands (option e) (λ o i. option_reading (f o i)) (λ o i. OptionStands (S o i))
  option_stands = record { writes = option_writes; returns = option_returns; accepts = λ o i. option_accepts (f o i) (S o i) (k.accepts o i) }

  bound_writes : WrittenStands (bound e) (λ o i. BoundStands o i (S o i))
  bound_writes o i Unbounded h = unbounded_writes (S o i) o i
  bound_writes o i (Included v) h = included_writes (S o i) o i (e.writing o i v) v (k.writes o i v h)
  bound_writes o i (Excluded v) h = excluded_writes (S o i) o i (e.writing o i v) v (k.writes o i v h)

  bound_returns : (o : Endianness) (i : IntEncoding) (bs : List ℕ) (v : _) → BoundStands o i (S o i) bs v → Returns (bound_reading o i (f o i)) bs ((bound e).claim v) v
  bound_returns o i bs v (unbounded t) = unbounded_returns (f o i) o i bs (unsigned_returns U32 o i bs 0 t)
  bound_returns o i bs u (included {x} {y} {v} t h) = included_returns (f o i) o i x y (e.claim v) v (unsigned_returns U32 o i x 1 t) (k.returns o i y v h)
  bound_returns o i bs u (excluded {x} {y} {v} t h) = excluded_returns (f o i) o i x y (e.claim v) v (unsigned_returns U32 o i x 2 t) (k.returns o i y v h)

  pub bound_stands : Stands (bound e) (λ o i. bound_reading o i (f o i)) (λ o i. BoundStands o i (S o i))
  bound_stands = record { writes = bound_writes; returns = bound_returns; accepts = λ o i. bound_accepts (f o i) (S o i) (k.accepts o i) o i }

module _ {A B : Type 0} (a : ElementMeaning A) (b : ElementMeaning B) (f : Endianness → IntEncoding → Reading A) (g : Endianness → IntEncoding → Reading B) (S : Endianness → IntEncoding → List ℕ → A → Type 0) (U : Endianness → IntEncoding → List ℕ → B → Type 0) (j : Stands a f S) (k : Stands b g U) where
  result_writes : WrittenStands (result a b) (λ o i. ResultStands o i (S o i) (U o i))
  result_writes o i (Ok v) h = ok_writes (S o i) (U o i) o i (a.writing o i v) v (j.writes o i v h)
  result_writes o i (Err w) h = err_writes (S o i) (U o i) o i (b.writing o i w) w (k.writes o i w h)

  result_returns : (o : Endianness) (i : IntEncoding) (bs : List ℕ) (v : _) → ResultStands o i (S o i) (U o i) bs v → Returns (result_reading o i (f o i) (g o i)) bs ((result a b).claim v) v
  result_returns o i bs u (ok {x} {y} {v} t h) = ok_returns (f o i) (g o i) x y o i (a.claim v) v (unsigned_returns U32 o i x 0 t) (j.returns o i y v h)
  result_returns o i bs v (err {x} {y} {w} t h) = err_returns (f o i) (g o i) x y o i (b.claim w) w (unsigned_returns U32 o i x 1 t) (k.returns o i y w h)

  pub result_stands : Stands (result a b) (λ o i. result_reading o i (f o i) (g o i)) (λ o i. ResultStands o i (S o i) (U o i))
  result_stands = record { writes = result_writes; returns = result_returns; accepts = λ o i. result_accepts (f o i) (g o i) (S o i) (U o i) (j.accepts o i) (k.accepts o i) o i }

  both_writes : WrittenStands (pair a b) (λ o i. PairStands (S o i) (U o i))
  both_writes o i v h =
      let c = and_parts (a.valid v.0) (b.valid v.1) h in
      pair_writes (S o i) (U o i) (a.writing o i v.0) (b.writing o i v.1) v.0 v.1 (j.writes o i v.0 c.0) (k.writes o i v.1 c.1)

  both_returns : (o : Endianness) (i : IntEncoding) (bs : List ℕ) (v : A × B) → PairStands (S o i) (U o i) bs v → Returns (pair_reading (f o i) (g o i)) bs ((pair a b).claim v) v
  both_returns o i bs p (relation.pair {x} {y} {v} {w} s u) = pair_returns (f o i) (g o i) x y (a.claim v) (b.claim w) v w (j.returns o i x v s) (k.returns o i y w u)

  pub pair_stands : Stands (pair a b) (λ o i. pair_reading (f o i) (g o i)) (λ o i. PairStands (S o i) (U o i))
  pair_stands = record { writes = both_writes; returns = both_returns; accepts = λ o i. pair_accepts (f o i) (g o i) (S o i) (U o i) (j.accepts o i) (k.accepts o i) }
