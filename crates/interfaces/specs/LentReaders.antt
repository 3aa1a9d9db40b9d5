-- What a lent reader means: what the reader behind the reference means.
use Rattle.std.proofs.Common.{ap}
use denote.Ref.{MutBor, at_last}
use Rattle.interfaces.specs.Readers.{ReaderMeaning, ReaderLaws}

-- the bytes that wait and the view are those of the reader behind, and bytes going changes that reader alone
abbrev pub lent_reader : {R : Type 0} → ReaderMeaning R → ReaderMeaning (MutBor R)
lent_reader m = record {
  waiting = λ r. m.waiting r.now;
  view = λ r. m.view r.now;
  gone = λ k r. at_last r (m.gone k r.now);
}

-- the laws of the reader behind
pub lent_reader_laws : {R : Type 0} {m : ReaderMeaning R} → ReaderLaws m → ReaderLaws (lent_reader m)
lent_reader_laws l = record {
  within = λ r. l.within r.now;
  nothing = λ r. ap (at_last r) (l.nothing r.now);
  leaves = λ k r h. l.leaves k r.now h;
  adds = λ a b r h. ap (at_last r) (l.adds a b r.now h);
}
