-- What an unseen reader means: what the reader inside means, with nothing in view.
use Rattle.std.proofs.Common.{ap, zero-le}
use Rattle.interfaces.specs.Readers.{ReaderMeaning, ReaderLaws}
use Rattle.readers.specs.declared.unseen.Unseen.{Unseen}

-- the unseen reader with this one inside
abbrev pub over : {R : Type 0} → R → Unseen R
over r = record { reader = r }

-- the bytes that wait are those of the reader inside, none of them is in view, and bytes going changes that reader alone
abbrev pub unseen_reader : {R : Type 0} → ReaderMeaning R → ReaderMeaning (Unseen R)
unseen_reader m = record {
  waiting = λ u. m.waiting u.reader;
  view = λ u. 0;
  gone = λ k u. over (m.gone k u.reader);
}

-- the laws of the reader inside
pub unseen_reader_laws : {R : Type 0} {m : ReaderMeaning R} → ReaderLaws m → ReaderLaws (unseen_reader m)
unseen_reader_laws l = record {
  within = λ u. zero-le;
  nothing = λ u. ap over (l.nothing u.reader);
  leaves = λ k u h. l.leaves k u.reader h;
  adds = λ a b u h. ap over (l.adds a b u.reader h);
}
