use Rattle.std.proofs.Common.{◌≡◌, ◌-◌, [], ◌++◌, length, take, drop, ap, ◌∙◌, arith, get_or-drop, rules, length-drop, length-take, length-append}
use Rattle.format.specs.Integers.{unsigned_range}
use Rattle.format.specs.Numbers.{number}
use Rattle.format.specs.declared.config.Endianness.TheVariants.{Little, Big}
use Rattle.parsers.proofs.Numbers.{zeros, padded_little, padded_big, number_fits}
use Rattle.parsers.proofs.Rows.{row}
use Rattle.parsers.proofs.varint.number_of.Goals as goal
use Rattle.std.proofs.lemmas.List.{drop_all}

pub returns-in-Little : goal.returns-in-Little
returns-in-Little c =
    let xs = c.args.bytes.now in
    let put = c.copy_from_slice.new.self in
    let is = c.copy_from_slice.ensures.after in
    let whole : length (put ++ drop (length xs) zeros) ≡ 8 = simp length-append (omega (arith, ap length is, length-drop (length xs) zeros, c.requires)) in
    let e = simp get_or-drop at (ap (number Little) (row 8 (put ++ drop (length xs) zeros) whole)) in
    let value : c.from_le_bytes.result ≡ number c.args.order xs =
    omega (arith, c.from_le_bytes.ensures, e, padded_little put (length xs), ap (number Little) is, ap (λ o. number o xs) c.in-Little.is) in
    record { value = value; range = ap (unsigned_range (length xs)) value ∙ number_fits c.args.order xs (λ k l. search rules) }

pub returns-in-Big : goal.returns-in-Big
returns-in-Big c =
    let xs = c.args.bytes.now in
    let at = 8 - length xs in
    let put = c.copy_from_slice-in-Big.new.self in
    let is = c.copy_from_slice-in-Big.ensures.after in
    let none : drop (8 - at) (drop at zeros) ≡ [] = drop_all (8 - at) (drop at zeros) (omega (arith, length-drop at zeros)) in
    let whole : length (take at zeros ++ (put ++ [])) ≡ 8 = simp length-append (omega (arith, ap length is, length-take at zeros, c.requires)) in
    let e = simp get_or-drop at (ap (number Big) (row 8 (take at zeros ++ (put ++ [])) whole)) in
    let read = rw none at c.from_be_bytes.ensures in
    let value : c.from_be_bytes.result ≡ number c.args.order xs =
    omega (arith, read, e, padded_big put at, ap (number Big) is, ap (λ o. number o xs) c.in-Big.is) in
    record { value = value; range = ap (unsigned_range (length xs)) value ∙ number_fits c.args.order xs (λ k l. search rules) }
