mod Signing
