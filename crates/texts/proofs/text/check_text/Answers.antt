use Rattle.std.proofs.Common.{◌-◌, length, drop, rules, sym, ap, ◌∙◌, subst, arith, length-drop, take_all}
use Rattle.format.proofs.Texts.{text_utf8, text_judged, verdict_text}
use Rattle.format.specs.Refusals.{given}
use Rattle.format.specs.Texts.{TextJudged}
use Rattle.texts.proofs.Checks.{Judged, none_gone, stops, goes_on, text_whole}
use Rattle.texts.proofs.text.check_text.Goals as goal

pub loop-rest-init : goal.loop-rest-init
loop-rest-init c = none_gone c.args.bytes.now

pub overflow_sub-result : goal.overflow_sub-result
overflow_sub-result c = c.loop-rest.invariant.within

-- no form follows
pub returns-in_default : goal.returns-in_default
returns-in_default c =
    let xs = c.args.bytes.now in
    let v = stops xs c.loop-rest.rest.now c.loop-rest.invariant (search rules) c.in_default.ensures c.bad_length.result c.bad_length.ensures in
    record { verdict = v; judged = subst (TextJudged xs) (sym v) (text_judged xs) }

-- a form follows
pub loop-rest-preserved : goal.loop-rest-preserved
loop-rest-preserved c =
    let xs = c.args.bytes.now in
    let rest = c.loop-rest.rest.now in
    let w = c.in-Some.width in
    let f = goes_on xs rest c.loop-rest.invariant w c.in-Some.ensures.0 c.in-Some.ensures.1 in
    subst (Judged xs) (sym (take_all (length rest - w) (drop w rest) (omega (arith, length-drop w rest)))) f.1

-- the bytes are text to their end
pub from_utf8_unchecked-requires : goal.from_utf8_unchecked-requires
from_utf8_unchecked-requires c = text_utf8 (text_whole c.args.bytes.now c.loop-rest.rest.now c.loop-rest.invariant (search rules))

pub returns : goal.returns
returns c =
    let xs = c.args.bytes.now in
    let t = text_whole xs c.loop-rest.rest.now c.loop-rest.invariant (search rules) in
    let v = ap given c.from_utf8_unchecked.ensures ∙ sym (verdict_text xs t) in
    record { verdict = v; judged = subst (TextJudged xs) (sym v) (text_judged xs) }
