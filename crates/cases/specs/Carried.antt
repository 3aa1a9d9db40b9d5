-- The meanings that the impls of the listed types and the supplied policies carry, read off the impls themselves.
use Rattle.std.specs.Borrow.{u8, u16, bool}
use Rattle.std.below.core.specs.contracts.clone.Clone+copy.TheImpl as copied
use Rattle.std.specs.Prelude.{ℕ, Bool, ℤ, Option, Result}
use Rattle.elements.specs.Elements.{ElementMeaning}
use Rattle.elements.specs.contracts.impls.bytes.BoolElement.TheImpl as bool_impl
use Rattle.elements.specs.contracts.impls.bytes.U8Element.TheImpl as u8_impl
use Rattle.elements.specs.contracts.impls.floats.F64Element.TheImpl as f64_impl
use Rattle.elements.specs.contracts.impls.signed.I32Element.TheImpl as i32_impl
use Rattle.elements.specs.contracts.impls.sums.OptionElement.TheImpl as option_impl
use Rattle.elements.specs.contracts.impls.sums.ResultElement.TheImpl as result_impl
use Rattle.elements.specs.contracts.impls.text.CharElement.TheImpl as char_impl
use Rattle.elements.specs.contracts.impls.time.DurationElement.TheImpl as duration_impl
use Rattle.elements.specs.contracts.impls.unsigned.U16Element.TheImpl as u16_impl
use Rattle.elements.specs.contracts.impls.unsigned.U32Element.TheImpl as u32_impl
use Rattle.elements.specs.contracts.impls.unsigned.U64Element.TheImpl as u64_impl
use Rattle.format.specs.declared.double.F64.{F64}
use Rattle.format.specs.declared.duration.Duration.{Duration}
use Rattle.format.specs.declared.scalar.Char.{Char}
use Rattle.interfaces.specs.Policies.{PolicyMeaning}
use Rattle.interfaces.specs.contracts.config.configuration.BigEndian as big
use Rattle.interfaces.specs.contracts.config.configuration.BigEndianEndianConfig.TheImpl as big_impl
use Rattle.interfaces.specs.contracts.config.configuration.ConfigurationPolicy.TheImpl as configuration_impl
use Rattle.interfaces.specs.contracts.config.configuration.Fixint as fixint
use Rattle.interfaces.specs.contracts.config.configuration.FixintIntEncodingConfig.TheImpl as fixint_impl
use Rattle.interfaces.specs.contracts.config.configuration.LittleEndian as little
use Rattle.interfaces.specs.contracts.config.configuration.LittleEndianEndianConfig.TheImpl as little_impl
use Rattle.interfaces.specs.contracts.config.configuration.NoLimit as no_limit
use Rattle.interfaces.specs.contracts.config.configuration.NoLimitLimitConfig.TheImpl as no_limit_impl
use Rattle.interfaces.specs.contracts.config.configuration.Varint as varint
use Rattle.interfaces.specs.contracts.config.configuration.VarintIntEncodingConfig.TheImpl as varint_impl

abbrev pub u32_carried : ElementMeaning ℕ
u32_carried = (u32_impl.ghosts).meaning

abbrev pub u64_carried : ElementMeaning ℕ
u64_carried = (u64_impl.ghosts).meaning

abbrev pub i32_carried : ElementMeaning ℤ
i32_carried = (i32_impl.ghosts).meaning

abbrev pub f64_carried : ElementMeaning F64
f64_carried = (f64_impl.ghosts).meaning

abbrev pub char_carried : ElementMeaning Char
char_carried = (char_impl.ghosts).meaning

abbrev pub duration_carried : ElementMeaning Duration
duration_carried = (duration_impl.ghosts).meaning

-- `Option<u16>`
abbrev pub option_carried : ElementMeaning (Option ℕ)
option_carried = (option_impl.ghosts u16 u16_impl.ghosts u16_impl.dict).meaning

-- `Result<u8, bool>`
abbrev pub result_carried : ElementMeaning (Result ℕ Bool)
result_carried = (result_impl.ghosts u8 bool u8_impl.ghosts u8_impl.dict bool_impl.ghosts bool_impl.dict).meaning

abbrev pub lv_carried : PolicyMeaning
lv_carried =
    (configuration_impl.ghosts little.the_row varint.the_row no_limit.the_row
    little_impl.ghosts little_impl.dict (copied.ghosts little.the_row) (copied.dict little.the_row)
    varint_impl.ghosts varint_impl.dict (copied.ghosts varint.the_row) (copied.dict varint.the_row)
    no_limit_impl.ghosts no_limit_impl.dict (copied.ghosts no_limit.the_row) (copied.dict no_limit.the_row)).meaning

abbrev pub lf_carried : PolicyMeaning
lf_carried =
    (configuration_impl.ghosts little.the_row fixint.the_row no_limit.the_row
    little_impl.ghosts little_impl.dict (copied.ghosts little.the_row) (copied.dict little.the_row)
    fixint_impl.ghosts fixint_impl.dict (copied.ghosts fixint.the_row) (copied.dict fixint.the_row)
    no_limit_impl.ghosts no_limit_impl.dict (copied.ghosts no_limit.the_row) (copied.dict no_limit.the_row)).meaning

abbrev pub bv_carried : PolicyMeaning
bv_carried =
    (configuration_impl.ghosts big.the_row varint.the_row no_limit.the_row
    big_impl.ghosts big_impl.dict (copied.ghosts big.the_row) (copied.dict big.the_row)
    varint_impl.ghosts varint_impl.dict (copied.ghosts varint.the_row) (copied.dict varint.the_row)
    no_limit_impl.ghosts no_limit_impl.dict (copied.ghosts no_limit.the_row) (copied.dict no_limit.the_row)).meaning

abbrev pub bf_carried : PolicyMeaning
bf_carried =
    (configuration_impl.ghosts big.the_row fixint.the_row no_limit.the_row
    big_impl.ghosts big_impl.dict (copied.ghosts big.the_row) (copied.dict big.the_row)
    fixint_impl.ghosts fixint_impl.dict (copied.ghosts fixint.the_row) (copied.dict fixint.the_row)
    no_limit_impl.ghosts no_limit_impl.dict (copied.ghosts no_limit.the_row) (copied.dict no_limit.the_row)).meaning
