mod Granting
