-- What a lent writer means: what the writer behind the reference means.
use Rattle.std.proofs.Common.{ap}
use denote.Ref.{MutBor, at_last}
use Rattle.interfaces.specs.Writers.{WriterMeaning, WriterLaws}

-- free is what is free to the writer behind, and taking bytes changes that writer alone
abbrev pub lent_meaning : {W : Type 0} → WriterMeaning W → WriterMeaning (MutBor W)
lent_meaning m = record { free = λ r. m.free r.now; takes = λ a r. at_last r (m.takes a r.now) }

pub lent_laws : {W : Type 0} {m : WriterMeaning W} → WriterLaws m → WriterLaws (lent_meaning m)
lent_laws l = record {
  nothing = λ r. ap (at_last r) (l.nothing r.now);
  joins = λ a b r h. ap (at_last r) (l.joins a b r.now h);
  falls = λ a r h. l.falls a r.now h;
}
