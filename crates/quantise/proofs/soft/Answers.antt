use Rattle.std.proofs.Common.{◌≡◌, true, false, sym, ◌∙◌, ap₂, le-leb}
use Rattle.std.proofs.lemmas.Bool.{lt-leb}
use Rattle.std.specs.Float.Ieee.{binary32, mul}
use Rattle.std.specs.Float.Ieee.Fits.{mul-fits}
use Rattle.quantise.specs.Soft.{signed, soft_value}
use Rattle.quantise.proofs.Floats.{bits_soft, not_nan, nan_soft, read_back, neg_back}
use Rattle.quantise.proofs.soft.Goals as goal

pub returns-then-is_nan : goal.returns-then-is_nan
returns-then-is_nan c = nan_soft (mul binary32 c.args.x c.args.scale) (sym c.is_nan.ensures.value ∙ c.if-is_nan.true)

pub returns-then-bits-lt2147483648 : goal.returns-then-bits-lt2147483648
returns-then-bits-lt2147483648 c =
    read_back c.magnitude-n.result c.magnitude-n.ensures.1
    ∙ (let h5 : signed false c.magnitude-n.result ≡ soft_value (mul binary32 c.args.x c.args.scale) = ap₂ signed
    (sym (lt-leb _ _ c.if-bits-lt2147483648.true)) c.magnitude-n.ensures.0
    ∙ sym (bits_soft (mul binary32 c.args.x c.args.scale) (mul-fits binary32 c.args.x c.args.scale)
    (not_nan (mul binary32 c.args.x c.args.scale) (sym c.is_nan.ensures.value ∙ c.if-is_nan.false))) in h5)

pub returns-else-bits-lt2147483648 : goal.returns-else-bits-lt2147483648
returns-else-bits-lt2147483648 c =
    neg_back c.magnitude-n.result c.magnitude-n.ensures.1
    ∙ (let h8 : signed true c.magnitude-n.result ≡ soft_value (mul binary32 c.args.x c.args.scale) = ap₂ signed
    (sym (le-leb _ _ c.if-bits-lt2147483648.false)) c.magnitude-n.ensures.0
    ∙ sym (bits_soft (mul binary32 c.args.x c.args.scale) (mul-fits binary32 c.args.x c.args.scale)
    (not_nan (mul binary32 c.args.x c.args.scale) (sym c.is_nan.ensures.value ∙ c.if-is_nan.false))) in h8)
