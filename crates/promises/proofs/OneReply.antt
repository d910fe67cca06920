-- No second reply fits: of each call, two replies that its contract allows on the same arguments are one, and so is what they leave in lent memory. Assumes
-- nothing.
use mathlib.Core.Path.{◌≡◌, sym, ◌∙◌}
use Rattle.error.proofs.number.Reads as number
use Rattle.error.proofs.place.Reads as place
use Rattle.error.proofs.reply.Reads as reply
use Rattle.basis.proofs.is_len_ok.Reads as is_len_ok
use Rattle.spline.proofs.spline.Reads as spline
use Rattle.spline.proofs.spline_segment.Reads as spline_segment
use Rattle.inverse_segment.proofs.spline_inverse_segment_with.Reads as spline_inverse_segment_with
use Rattle.inverse_segment.proofs.spline_inverse_segment.Reads as spline_inverse_segment
use Rattle.inverse_segment.proofs.spline_inverse_segment_by.Reads as spline_inverse_segment_by
use Rattle.inverse.proofs.spline_inverse_by.Reads as spline_inverse_by
use Rattle.inverse.proofs.spline_inverse_with.Reads as spline_inverse_with
use Rattle.inverse.proofs.spline_inverse.Reads as spline_inverse
use Rattle.convert.proofs.convert_segment.Reads as convert_segment
use Rattle.convert.proofs.convert_spline.Reads as convert_spline
use Rattle.simmerstoat.proofs.version.simmerstoat_version.Reads as c_version
use Rattle.simmerstoat.proofs.simmerstoat_is_len_ok.Reads as c_is_len_ok
use Rattle.simmerstoat.proofs.simmerstoat_spline.Reads as c_spline
use Rattle.simmerstoat.proofs.simmerstoat_spline_segment.Reads as c_spline_segment
use Rattle.simmerstoat.proofs.simmerstoat_spline_inverse.Reads as c_spline_inverse
use Rattle.simmerstoat.proofs.simmerstoat_spline_inverse_with.Reads as c_spline_inverse_with
use Rattle.simmerstoat.proofs.simmerstoat_spline_inverse_segment.Reads as c_spline_inverse_segment
use Rattle.simmerstoat.proofs.simmerstoat_spline_inverse_segment_with.Reads as c_spline_inverse_segment_with
use Rattle.simmerstoat.proofs.simmerstoat_convert_segment.Reads as c_convert_segment
use Rattle.simmerstoat.proofs.simmerstoat_convert_spline.Reads as c_convert_spline
use Rattle.calls.specs.Calls.{OneReply}

one : {A : Type 0} {d x x' : A} → x ≡ d → x' ≡ d → x ≡ x'
one p q = p ∙ sym q

-- ---- calls that lend nothing to write in: the reply
pub number_one_reply : OneReply number.Learnt (λ κs z e z' e'. z ≡ z')
number_one_reply κs a z z' e e' p q = one p q

pub place_one_reply : OneReply place.Learnt (λ κs z e z' e'. z ≡ z')
place_one_reply κs a z z' e e' p q = one p q

pub reply_one_reply : OneReply reply.Learnt (λ κs z e z' e'. z ≡ z')
reply_one_reply κs a z z' e e' p q = one p q

pub is_len_ok_one_reply : OneReply is_len_ok.Learnt (λ κs z e z' e'. z ≡ z')
is_len_ok_one_reply κs a z z' e e' p q = one p q

pub spline_one_reply : OneReply spline.Learnt (λ κs z e z' e'. z ≡ z')
spline_one_reply κs a z z' e e' p q = one p q

pub spline_segment_one_reply : OneReply spline_segment.Learnt (λ κs z e z' e'. z ≡ z')
spline_segment_one_reply κs a z z' e e' p q = one p q

pub spline_inverse_segment_with_one_reply : OneReply spline_inverse_segment_with.Learnt (λ κs z e z' e'. z ≡ z')
spline_inverse_segment_with_one_reply κs a z z' e e' p q = one p q

pub spline_inverse_segment_one_reply : OneReply spline_inverse_segment.Learnt (λ κs z e z' e'. z ≡ z')
spline_inverse_segment_one_reply κs a z z' e e' p q = one p q

pub spline_inverse_segment_by_one_reply : OneReply spline_inverse_segment_by.Learnt (λ κs z e z' e'. z ≡ z')
spline_inverse_segment_by_one_reply κs a z z' e e' p q = one p q

pub spline_inverse_by_one_reply : OneReply spline_inverse_by.Learnt (λ κs z e z' e'. z ≡ z')
spline_inverse_by_one_reply κs a z z' e e' p q = one p q

pub spline_inverse_with_one_reply : OneReply spline_inverse_with.Learnt (λ κs z e z' e'. z ≡ z')
spline_inverse_with_one_reply κs a z z' e e' p q = one p q

pub spline_inverse_one_reply : OneReply spline_inverse.Learnt (λ κs z e z' e'. z ≡ z')
spline_inverse_one_reply κs a z z' e e' p q = one p q

-- ---- conversions: the reply, and the whole buffer
pub convert_segment_one_reply : OneReply convert_segment.Learnt (λ κs z e z' e'. (z ≡ z') × (e.1.1.1.0.now ≡ e'.1.1.1.0.now))
convert_segment_one_reply κs a z z' e e' p q = (one p.0 q.0, one p.1 q.1)

pub convert_spline_one_reply : OneReply convert_spline.Learnt (λ κs z e z' e'. (z ≡ z') × (e.1.1.1.0.now ≡ e'.1.1.1.0.now))
convert_spline_one_reply κs a z z' e e' p q = (one p.0 q.0, one p.1 q.1)

-- ---- what others link: the number returned, and what stands behind each pointer that may be written
pub c_version_one_reply : OneReply c_version.Learnt (λ κs z e z' e'. z ≡ z')
c_version_one_reply κs a z z' e e' p q = one p q

pub c_is_len_ok_one_reply : OneReply c_is_len_ok.Learnt (λ κs z e z' e'. z ≡ z')
c_is_len_ok_one_reply κs a z z' e e' p q = one p q

pub c_spline_one_reply : OneReply c_spline.Learnt (λ κs z e z' e'. (z ≡ z') × (e.1.1.1.0.now ≡ e'.1.1.1.0.now))
c_spline_one_reply κs a z z' e e' p q = (one p.0 q.0, one p.1 q.1)

pub c_spline_segment_one_reply : OneReply c_spline_segment.Learnt (λ κs z e z' e'. (z ≡ z') × (e.1.1.1.0.now ≡ e'.1.1.1.0.now))
c_spline_segment_one_reply κs a z z' e e' p q = (one p.0 q.0, one p.1 q.1)

pub c_spline_inverse_one_reply : OneReply c_spline_inverse.Learnt
    (λ κs z e z' e'. (z ≡ z') × (e.1.1.1.1.0.now ≡ e'.1.1.1.1.0.now) × (e.1.1.1.1.1.0.now ≡ e'.1.1.1.1.1.0.now))
c_spline_inverse_one_reply κs a z z' e e' p q = (one p.0 q.0, one p.1.0 q.1.0, one p.1.1 q.1.1)

pub c_spline_inverse_with_one_reply : OneReply c_spline_inverse_with.Learnt
    (λ κs z e z' e'. (z ≡ z') × (e.1.1.1.1.1.1.0.now ≡ e'.1.1.1.1.1.1.0.now)
    × (e.1.1.1.1.1.1.1.0.now ≡ e'.1.1.1.1.1.1.1.0.now))
c_spline_inverse_with_one_reply κs a z z' e e' p q = (one p.0 q.0, one p.1.0 q.1.0, one p.1.1 q.1.1)

pub c_spline_inverse_segment_one_reply : OneReply c_spline_inverse_segment.Learnt
    (λ κs z e z' e'. (z ≡ z') × (e.1.1.1.0.now ≡ e'.1.1.1.0.now) × (e.1.1.1.1.0.now ≡ e'.1.1.1.1.0.now))
c_spline_inverse_segment_one_reply κs a z z' e e' p q = (one p.0 q.0, one p.1.0 q.1.0, one p.1.1 q.1.1)

pub c_spline_inverse_segment_with_one_reply : OneReply c_spline_inverse_segment_with.Learnt
    (λ κs z e z' e'. (z ≡ z') × (e.1.1.1.1.1.0.now ≡ e'.1.1.1.1.1.0.now) × (e.1.1.1.1.1.1.0.now ≡ e'.1.1.1.1.1.1.0.now))
c_spline_inverse_segment_with_one_reply κs a z z' e e' p q = (one p.0 q.0, one p.1.0 q.1.0, one p.1.1 q.1.1)

pub c_convert_segment_one_reply : OneReply c_convert_segment.Learnt (λ κs z e z' e'. (z ≡ z') × (e.1.1.1.0.now ≡ e'.1.1.1.0.now))
c_convert_segment_one_reply κs a z z' e e' p q = (one p.0 q.0, one p.1 q.1)

pub c_convert_spline_one_reply : OneReply c_convert_spline.Learnt
    (λ κs z e z' e'. (z ≡ z') × (e.1.1.1.1.0.now ≡ e'.1.1.1.1.0.now) × (e.1.1.1.0.now ≡ e'.1.1.1.0.now))
c_convert_spline_one_reply κs a z z' e e' p q = (one p.0 q.0, one p.1.0 q.1.0, one p.1.1 q.1.1)
