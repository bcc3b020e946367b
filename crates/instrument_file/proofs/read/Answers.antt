-- Each way out is a law of proofs/Order.antt, by what the tests before it answered.
use mathlib.Core.Path.{sym, ap, ◌∙◌}
use native.Mathlib.Omega.{arith}
use Rattle.std.specs.Prelude.{Ok}
use Rattle.instrument_file.proofs.Order.{refused_1, refused_2, refused_3, refused_4, sum_fits, sum_is, refused_5, refused_6, accepts}
use Rattle.instrument_file.proofs.read.Goals as goal

pub returns-then-not-is_headed : goal.returns-then-not-is_headed
returns-then-not-is_headed c = refused_1 c.args.f.now (sym c.is_headed.ensures ∙ c.if-not-is_headed.true)

pub key_count-n-requires : goal.key_count-n-requires
key_count-n-requires c = sym c.is_headed.ensures ∙ c.if-not-is_headed.false

pub returns-then-not-is_chained : goal.returns-then-not-is_chained
returns-then-not-is_chained c =
    let h1 = sym c.is_headed.ensures ∙ c.if-not-is_headed.false in
    refused_2 c.args.f.now c.key_count-n.result c.key_count-n.ensures.0 h1 (sym c.is_chained.ensures ∙ c.if-not-is_chained.true)

pub returns-then-not-is_measured : goal.returns-then-not-is_measured
returns-then-not-is_measured c =
    let h1 = sym c.is_headed.ensures ∙ c.if-not-is_headed.false in
    let h2 = sym c.is_chained.ensures ∙ c.if-not-is_chained.false in
    refused_3 c.args.f.now c.key_count-n.result c.key_count-n.ensures.0 h1 h2 (sym c.is_measured.ensures ∙ c.if-not-is_measured.true)

pub returns-then-not-is_fielded : goal.returns-then-not-is_fielded
returns-then-not-is_fielded c =
    let h1 = sym c.is_headed.ensures ∙ c.if-not-is_headed.false in
    let h2 = sym c.is_chained.ensures ∙ c.if-not-is_chained.false in
    let h3 = sym c.is_measured.ensures ∙ c.if-not-is_measured.false in
    refused_4 c.args.f.now c.key_count-n.result c.key_count-n.ensures.0 h1 h2 h3 (sym c.is_fielded.ensures ∙ c.if-not-is_fielded.true)

pub string_sum-m-requires : goal.string_sum-m-requires
string_sum-m-requires c =
    let h1 = sym c.is_headed.ensures ∙ c.if-not-is_headed.false in
    let h2 = sym c.is_chained.ensures ∙ c.if-not-is_chained.false in
    let h3 = sym c.is_measured.ensures ∙ c.if-not-is_measured.false in
    let h4 = sym c.is_fielded.ensures ∙ c.if-not-is_fielded.false in
    let most = sum_fits c.args.f.now c.key_count-n.result c.key_count-n.ensures.0 h1 h2 h3 h4
    c.key_count-n.ensures.2 c.keys_of-keys.result c.keys_of-keys.ensures in
    omega arith

pub returns-then-m-gt32 : goal.returns-then-m-gt32
returns-then-m-gt32 c =
    let h1 = sym c.is_headed.ensures ∙ c.if-not-is_headed.false in
    let h2 = sym c.is_chained.ensures ∙ c.if-not-is_chained.false in
    let h3 = sym c.is_measured.ensures ∙ c.if-not-is_measured.false in
    let h4 = sym c.is_fielded.ensures ∙ c.if-not-is_fielded.false in
    refused_5 c.args.f.now c.key_count-n.result c.key_count-n.ensures.0 h1 h2 h3 h4
    c.key_count-n.ensures.2 c.keys_of-keys.result c.keys_of-keys.ensures c.string_sum-m.result c.string_sum-m.ensures c.if-m-gt32.true

pub returns-then-not-keys_apart : goal.returns-then-not-keys_apart
returns-then-not-keys_apart c =
    let h1 = sym c.is_headed.ensures ∙ c.if-not-is_headed.false in
    let h2 = sym c.is_chained.ensures ∙ c.if-not-is_chained.false in
    let h3 = sym c.is_measured.ensures ∙ c.if-not-is_measured.false in
    let h4 = sym c.is_fielded.ensures ∙ c.if-not-is_fielded.false in
    refused_6 c.args.f.now c.key_count-n.result c.key_count-n.ensures.0 h1 h2 h3 h4
    c.key_count-n.ensures.2 c.keys_of-keys.result c.keys_of-keys.ensures c.string_sum-m.result c.string_sum-m.ensures c.if-m-gt32.false
    (sym c.keys_apart.ensures ∙ c.if-not-keys_apart.true)

pub instrument_of-requires : goal.instrument_of-requires
instrument_of-requires c =
    let h1 = sym c.is_headed.ensures ∙ c.if-not-is_headed.false in
    let h2 = sym c.is_chained.ensures ∙ c.if-not-is_chained.false in
    let h3 = sym c.is_measured.ensures ∙ c.if-not-is_measured.false in
    let h4 = sym c.is_fielded.ensures ∙ c.if-not-is_fielded.false in (
      c.keys_of-keys.ensures,
      sum_is c.args.f.now c.key_count-n.result c.key_count-n.ensures.0 h1 h2 h3 h4
          c.key_count-n.ensures.2 c.keys_of-keys.result c.keys_of-keys.ensures c.string_sum-m.result c.string_sum-m.ensures,
      c.if-m-gt32.false,
    )

pub returns : goal.returns
returns c =
    let h1 = sym c.is_headed.ensures ∙ c.if-not-is_headed.false in
    let h2 = sym c.is_chained.ensures ∙ c.if-not-is_chained.false in
    let h3 = sym c.is_measured.ensures ∙ c.if-not-is_measured.false in
    let h4 = sym c.is_fielded.ensures ∙ c.if-not-is_fielded.false in
    ap Ok c.instrument_of.ensures ∙ accepts c.args.f.now c.key_count-n.result c.key_count-n.ensures.0 h1 h2 h3 h4
    c.key_count-n.ensures.2 c.keys_of-keys.result c.keys_of-keys.ensures c.string_sum-m.result c.string_sum-m.ensures c.if-m-gt32.false
    (sym c.keys_apart.ensures ∙ c.if-not-keys_apart.false)
