-- The laws of an element from those of its reading and back, and what a call of `decode` owes by them.
use Rattle.std.proofs.Common.{◌≡◌, ℕ, ◌+◌, ◌*◌, ◌≤◌, Bool, true, false, cond, is_ok, Result, arith}
use Rattle.format.specs.Pieces.{joined}
use Rattle.format.specs.declared.config.Endianness.{Endianness}
use Rattle.format.specs.declared.config.IntEncoding.{IntEncoding}
use Rattle.format.specs.declared.error.DecodeError.{DecodeError}
use Rattle.interfaces.proofs.Doing.{did_charged}
use Rattle.interfaces.specs.Policies.{PolicyMeaning}
use Rattle.interfaces.specs.Readers.{ReaderMeaning, ReaderLaws}
use Rattle.elements.specs.Elements.{ElementMeaning}
use Rattle.meanings.specs.Decodes.{ElementLaws, Decoded}
use Rattle.readings.specs.Claims.{capped}
use Rattle.readings.specs.Laws.{Returns, Lawful, accepted, Charged}
use Rattle.readings.specs.Readings.{Reading}

module _ {A : Type 0} (e : ElementMeaning A) (f : Endianness → IntEncoding → Reading A) where
  pub laws_from : ((o : Endianness) (i : IntEncoding) (v : A) → e.valid v ≡ true → Returns (f o i) (joined (e.writing o i v)) (e.claim v) v) → ((o : Endianness) (i : IntEncoding) → Lawful 2 0 0 (f o i)) → ElementLaws e f
  laws_from r k = record {
    returns = r;
    same_sight = λ o i. (k o i).alike;
    charge = λ o i s l h. plain (accepted (f o i s).answer) (3 * capped l s.count + 2 * (f o i s).used) (3 * capped l (f o i s).counted) ((k o i).pays s l h);
    within = λ o i. (k o i).within;
  }
    where
      plain : (b : Bool) (x y : ℕ) → x + cond b 0 0 ≤ y + 0 + cond b 0 2 → x ≤ y + cond b 0 2
      plain true x y h = omega arith
      plain false x y h = omega arith

  module _ (laws : ElementLaws e f) where
    pub lawful : (o : Endianness) (i : IntEncoding) → Lawful 2 0 0 (f o i)
    lawful o i = record {
      within = laws.within o i;
      pays = λ s l h. paid (accepted (f o i s).answer) (3 * capped l s.count + 2 * (f o i s).used) (3 * capped l (f o i s).counted) (laws.charge o i s l h);
      alike = laws.same_sight o i;
    }
      where
        paid : (b : Bool) (x y : ℕ) → x ≤ y + cond b 0 2 → x + cond b 0 0 ≤ y + 0 + cond b 0 2
        paid true x y h = omega arith
        paid false x y h = omega arith

    -- what a call did is charged
    pub decoded_charged : {R : Type 0} {m : ReaderMeaning R} → ReaderLaws m → (p : PolicyMeaning) {r : R} {n : ℕ} {res : Result A DecodeError} {r' : R} {n' : ℕ} → Decoded e f p m r n res r' n' → Charged p.limit (m.waiting r) n (is_ok res) (m.waiting r') n'
    decoded_charged readers p d = did_charged readers p (lawful p.order p.encoding) d.did
