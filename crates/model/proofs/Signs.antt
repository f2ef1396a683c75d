-- The joint of a vector, the sign of a component, and the signs of alphas.
use Rattle.std.proofs.Common.{◌≡◌, zero, suc, eqb, ℤ, pos, negsuc, refl, ◌∙◌, arith}
use Rattle.av1.specs.Vectors.{nonzero}
use Rattle.model.proofs.Vectors.{joint_col, joint_row}
use Rattle.model.specs.Vector.{present}
use Rattle.model.specs.Facts.{JointNames, SignFirst, SignsJoined}

present_one : (z : ℤ) → present z ≡ eqb (nonzero z) 1
present_one (pos zero) = refl
present_one (pos (suc z)) = refl
present_one (negsuc z) = refl

pub joint_names : JointNames
joint_names p d = (joint_row d.0 d.1 ∙ present_one d.0, joint_col d.0 d.1 ∙ present_one d.1)

pub sign_first : SignFirst
sign_first p (pos zero) h = absurd (omega arith)
sign_first p (pos (suc z)) h = refl
sign_first p (negsuc z) h = refl

pub signs_joined : SignsJoined
signs_joined (pos zero, pos zero) h = absurd h
signs_joined (pos (suc a), pos zero) h = (refl, refl)
signs_joined (negsuc a, pos zero) h = (refl, refl)
signs_joined _ h = (refl, refl)
